-- Samples with the same components, and lists of samples place by place.
use Rattle.std.proofs.Common.{◌≡◌, ℕ, ◌^◌, ◌<◌, ◌≤◌, List, length, map, inl, inr, ℤ, pos, arith}
use Rattle.std.specs.Prelude.{FitsSigned, unsigned_abs}
use Rattle.std.specs.Int.{w16}
use Rattle.std.proofs.lemmas.Bool.{cases_lt}
use Rattle.std.proofs.lemmas.Int.{ints}
use Rattle.std.proofs.lemmas.List.{get_or_past}
use Rattle.std.specs.List.{range_with_len}
use Rattle.std.proofs.lemmas.List.FromFn.{get_or-map-range_with_len}
use Rattle.fixed_complex.specs.declared.Sample.{Sample}
use Rattle.fixed_complex.specs.Pairs.{IsWithin}
use Rattle.fixed_complex.specs.Samples.{AreSamples, IsSample, pair_at, sample_at}

pub same_sample : (s t : Sample) → s.i ≡ t.i → s.q ≡ t.q → s ≡ t
same_sample s t i q = λ k. record { i = i k; q = q k }

pub sample-map : (f : ℕ → Sample) (size n : ℕ) → n < size → sample_at (map f (range_with_len 0 size)) n ≡ f n
sample-map f size n lt = get_or-map-range_with_len f 0 size n n _ lt (omega arith)

-- samples have 16 bits at each place, past the end too, and so have they as pairs
pub is_sample_at : (samples : List Sample) → AreSamples samples → (n : ℕ) → IsSample (sample_at samples n)
is_sample_at samples are n =
    elim (cases_lt n (length samples)) [
      | inl here ↦ are n _ here
      | inr past ↦ rw (get_or_past samples n (record { i = pos 0; q = pos 0 }) past) (record { i = omega (arith, ints); q = omega (arith, ints) })
    ]

size_of_16_bits : (z : ℤ) → FitsSigned w16 z → unsigned_abs z ≤ 2 ^ 15
size_of_16_bits z fits = omega (arith, ints)

pub within_16_bits : (samples : List Sample) → AreSamples samples → (n : ℕ) → IsWithin (2 ^ 15) (pair_at samples n)
within_16_bits samples are n =
    let is = is_sample_at samples are n in
    record { re = size_of_16_bits _ is.i; im = size_of_16_bits _ is.q }
