-- Scans for the first loud sample, chunk by chunk.
use Rattle.std.proofs.Common.{◌≡◌, inl, inr, ℕ, ◌+◌, ◌-◌, ◌<◌, ◌≤◌, true, false, List, length, arith}
use Rattle.std.proofs.lemmas.Bool.{cases_lt}
use Rattle.std.proofs.lemmas.List.Sums.{position_or_len_is}
use Rattle.std.specs.List.{slice_range}
use Rattle.std.specs.Prelude.{pos}
use Rattle.fixed_complex.specs.declared.Sample.{Sample}
use Rattle.lane_kernels.specs.Kernels.{first_loud_of, is_loud}
use Rattle.fixed_complex.specs.Samples.{sample_at}
use Rattle.lane_kernels.proofs.Wholes.{sample-chunk}

-- a quiet chunk more
pub quiet-more : (a : List Sample) (i j : ℕ) → j ≡ i + 16 → ((n : ℕ) → n < i → is_loud (sample_at a n) ≡ false) → ((n : ℕ) → n < 16 → is_loud (sample_at (slice_range a i j) n) ≡ false) → (n : ℕ) → n < j → is_loud (sample_at a n) ≡ false
quiet-more a i j e before chunk n below =
    elim (cases_lt n i) [
      | inl here ↦ before n here
      | inr past ↦
          let at : i + (n - i) ≡ n = omega arith in
          let within : n - i < 16 = omega arith in
          let quiet = rw (sample-chunk a 16 i j (n - i) e within) at (chunk (n - i) within) in
          rw at at quiet
    ]

-- the first place that isn't quiet
pub first_is : (a : List Sample) (i : ℕ) → i ≤ length a → ((n : ℕ) → n < i → is_loud (sample_at a n) ≡ false) → (i < length a → is_loud (sample_at a i) ≡ true) → first_loud_of a ≡ i
unfolding first_loud_of
first_is a i within quiet loud = position_or_len_is is_loud a i (record { i = pos 0; q = pos 0 }) within quiet loud
