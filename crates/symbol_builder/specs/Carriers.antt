-- What the carriers of a symbol carry (IEEE Std 802.11-2012, 18.3.5.9 and 18.3.5.10; the amplitudes are own).
use Rattle.std.specs.Prelude.{ℕ, ◌+◌, ◌%◌, ◌==◌, nat_lt, List, map, codes, slice_index_or, ℤ, pos, negsuc, ◌*ℤ◌, if◌then◌else◌}
use Rattle.std.specs.List.{position_or_len, range_with_len}
use Rattle.fixed_complex.specs.declared.Cx.{Cx}
use Rattle.fixed_complex.specs.declared.Sample.{Sample}
use Rattle.fixed_complex.specs.Pairs.{zero_pair}
use Rattle.carrier_bins.specs.Carriers.{bin_of, data_carrier_of}
use Rattle.ofdm_scrambler.specs.Sequence.{scrambler_bit}
use Rattle.carrier_bins.specs.Bins.{carrier_in}
use Rattle.plain_waves.specs.Bodies.{plain_body, sent_body}
use Rattle.carrier_bins.specs.Signs.{sign_at}

-- p_n: 1 where the sequence of the seed of seven ones has 0 at n modulo 127, and -1 where it has 1
unfoldable pub polarity_of : ℕ → ℤ
polarity_of n = if scrambler_bit 127 (n % 127) == 0 then pos 1 else negsuc 0

-- P: the signs of the pilots on the carriers from -26 to 26
abbrev pub pilot_signs : List ℕ
pilot_signs = codes "00000+0000000000000+0000000000000+0000000000000-00000"

abbrev pub pilot_sign_of : ℤ → ℤ
pilot_sign_of carrier = sign_at pilot_signs carrier

-- what a carrier carries as a pilot of symbol n: 0 where it is none
abbrev pub pilot_at : ℕ → ℤ → Cx
pilot_at n carrier = record { re = pos 648 *ℤ (polarity_of n *ℤ pilot_sign_of carrier); im = pos 0 }

-- the data number whose carrier stands in a bin; 48 where there is none
unfoldable pub data_number_in : ℕ → ℕ
data_number_in bin = position_or_len (λ k. bin_of (data_carrier_of k) == bin) (range_with_len 0 48)

-- what stands in a bin of symbol n: the point of the data number there, else the pilot there, else 0
unfoldable pub symbol_bin : List Cx → ℕ → ℕ → Cx
symbol_bin points n bin =
    let k = data_number_in bin in
    if nat_lt k 48 then slice_index_or points k zero_pair else pilot_at n (carrier_in bin)

-- the 64 bins of symbol n
abbrev pub symbol_bins : List Cx → ℕ → List Cx
symbol_bins points n = map (symbol_bin points n) (range_with_len 0 64)

-- the times of a symbol: the cyclic prefix, which is the last 16 samples of the body, and the body
abbrev pub symbol_times : {A : Type 0} → (ℕ → A) → List A
symbol_times body = map (λ time. body ((time + 48) % 64)) (range_with_len 0 80)

-- the 80 sent samples of symbol n, which are made of staged sums (own)
abbrev pub sent_symbol : List Cx → ℕ → List Sample
sent_symbol points n = symbol_times (sent_body (symbol_bin points n))

-- the 80 pairs of its plain waveform; its scale is own
abbrev pub plain_symbol : List Cx → ℕ → List Cx
plain_symbol points n = symbol_times (plain_body (symbol_bin points n))
