-- Carriers and their bins (own): a carrier stands in the bin that is the carrier modulo 64.
use Rattle.std.specs.Prelude.{ℕ, nat_lt, List, map, ℤ, pos, ◌-ℤ◌, if◌then◌else◌}
use Rattle.std.specs.List.{range_with_len}
use Rattle.fixed_complex.specs.declared.Cx.{Cx}

-- the carrier, from -32 to 31, in a bin
abbrev pub carrier_in : ℕ → ℤ
carrier_in bin = if nat_lt bin 32 then pos bin else pos bin -ℤ pos 64

-- what carriers carry, by bin
abbrev pub by_bin : (ℤ → Cx) → ℕ → Cx
by_bin carried bin = carried (carrier_in bin)

-- the same as a list of the 64 bins
abbrev pub all_bins : (ℤ → Cx) → List Cx
all_bins carried = map (by_bin carried) (range_with_len 0 64)
