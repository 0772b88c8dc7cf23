-- The carriers of data and of pilots, and the bins of carriers (IEEE Std 802.11-2012, 18.3.5.9 and 18.3.5.10).
use Rattle.std.specs.Prelude.{ℕ, List, map, slice_index_or, Bool, not, ◌==◌, ◌||◌, ℤ, pos, ◌-ℤ◌, unsigned_abs}
use Rattle.std.specs.List.{filter, range_with_len}
use Rattle.std.specs.Int.{int_rem_euclid}

-- the carriers from -26 to 26
abbrev pub carriers_in_use : List ℤ
carriers_in_use = map (λ n. pos n -ℤ pos 26) (range_with_len 0 53)

-- the pilots stand on the carriers 7 and 21 below and above 0 (18.3.5.9)
abbrev pub is_pilot : ℤ → Bool
is_pilot carrier = let size = unsigned_abs carrier in size == 7 || size == 21

-- data stand on all of them but 0 and the pilots
abbrev pub carries_data : ℤ → Bool
carries_data carrier = not (unsigned_abs carrier == 0 || is_pilot carrier)

-- the carrier of a data number: the carriers with data, from the lowest on
unfoldable pub data_carrier_of : ℕ → ℤ
data_carrier_of k = slice_index_or (filter carries_data carriers_in_use) k (pos 0)

-- the bin of a carrier: the carrier modulo 64
unfoldable pub bin_of : ℤ → ℕ
bin_of carrier = unsigned_abs (int_rem_euclid carrier (pos 64))
