-- Held sums of samples, place by place.
use Rattle.std.proofs.Common.{◌≡◌, ℕ, zero, suc, ◌<◌, List, [], ◌∷◌, length, refl, ap, arith}
use Rattle.fixed_complex.specs.declared.Sample.{Sample}
use Rattle.fixed_complex.specs.Samples.{sample_at}
use Rattle.lane_kernels.specs.Kernels.{held_sum, held_sums}

pub length-held_sums : (xs ys : List Sample) → length xs ≡ length ys → length (held_sums xs ys) ≡ length xs
unfolding held_sums
length-held_sums [] ys h = refl
length-held_sums (x ∷ xs) [] h = absurd (omega arith)
length-held_sums (x ∷ xs) (y ∷ ys) h = ap suc (length-held_sums xs ys (omega arith))

pub held_sums-at : (xs ys : List Sample) (n : ℕ) → length xs ≡ length ys → n < length xs → sample_at (held_sums xs ys) n ≡ held_sum (sample_at xs n) (sample_at ys n)
unfolding held_sums
held_sums-at [] ys n h below = absurd (omega arith)
held_sums-at (x ∷ xs) [] n h below = absurd (omega arith)
held_sums-at (x ∷ xs) (y ∷ ys) zero h below = refl
held_sums-at (x ∷ xs) (y ∷ ys) (suc n) h below = held_sums-at xs ys n (omega arith) (omega arith)
