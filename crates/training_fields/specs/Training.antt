-- The short and the long training field (IEEE Std 802.11-2012, 18.3.3; the amplitudes are own).
use Rattle.std.specs.Prelude.{ℕ, ◌+◌, ◌%◌, List, ◌++◌, map, codes, ℤ, pos, ◌*ℤ◌}
use Rattle.std.specs.List.{range_with_len}
use Rattle.fixed_complex.specs.declared.Cx.{Cx}
use Rattle.fixed_complex.specs.declared.Sample.{Sample}
use Rattle.carrier_bins.specs.Bins.{by_bin}
use Rattle.plain_waves.specs.Bodies.{plain_body, sample_of}
use Rattle.carrier_bins.specs.Signs.{sign_at}

-- S: the signs of the short training field on the carriers from -26 to 26
abbrev pub short_signs : List ℕ
short_signs = codes "00+000-000+000-000-000+0000000-000-000+000+000+000+00"

-- L: the signs of the long training field
abbrev pub long_signs : List ℕ
long_signs = codes "++--++-+-++++++--++-+-++++0+--++-+-+-----++--+-+-++++"

abbrev pub short_sign_of : ℤ → ℤ
short_sign_of carrier = sign_at short_signs carrier

abbrev pub long_sign_of : ℤ → ℤ
long_sign_of carrier = sign_at long_signs carrier

-- what a carrier carries in the short and in the long training field
abbrev pub short_carrier : ℤ → Cx
short_carrier carrier =
    record { re = pos 954 *ℤ short_sign_of carrier; im = pos 954 *ℤ short_sign_of carrier }

abbrev pub long_carrier : ℤ → Cx
long_carrier carrier = record { re = pos 648 *ℤ long_sign_of carrier; im = pos 0 }

-- the times of the short training field: 160, each with the body's sample at the time modulo 64
abbrev pub short_times : {A : Type 0} → (ℕ → A) → List A
short_times body = map (λ time. body (time % 64)) (range_with_len 0 160)

-- the times of the long training field: a guard of 32, the end of the body, and two bodies
abbrev pub long_times : {A : Type 0} → (ℕ → A) → List A
long_times body = map (λ time. body ((time + 32) % 64)) (range_with_len 0 160)

-- both training fields; `body` makes 64 samples, or 64 plain pairs, of what the bins carry
abbrev pub preamble_of : {A : Type 0} → ((ℕ → Cx) → ℕ → A) → List A
preamble_of body =
    short_times (body (by_bin short_carrier)) ++ long_times (body (by_bin long_carrier))

-- the template of the search: the plain waveform of both, rounded half up to samples
abbrev pub template_of : List Sample
template_of = map (sample_of 21) (preamble_of plain_body)
