-- What the sums by place are of whole lists, and what a chunk is of one.
use Rattle.std.proofs.Common.{◌≡◌, inl, inr, ℕ, zero, suc, ◌+◌, ◌-◌, ◌^◌, ◌<◌, List, [], ◌∷◌, length, ℤ, pos, ◌+ℤ◌, refl, sym, ap, ◌∙◌, arith}
use Rattle.std.proofs.lemmas.Bool.{cases_lt}
use Rattle.std.specs.List.{slice_range}
use Rattle.std.proofs.lemmas.Int.{ints}
use Rattle.std.proofs.lemmas.Simd.{get_or-chunk}
use Rattle.fixed_complex.specs.declared.Sample.{Sample}
use Rattle.lane_kernels.specs.Kernels.{dot_of, energy_of, power_of, product_of}
use Rattle.lane_kernels.specs.Lanes.{total_below}
use Rattle.fixed_complex.specs.Pairs.{IsWithin}
use Rattle.fixed_complex.specs.Samples.{sample_at}

-- the samples of a chunk
pub sample-chunk : (xs : List Sample) (k i j n : ℕ) → j ≡ i + k → n < k → sample_at (slice_range xs i j) n ≡ sample_at xs (i + n)
sample-chunk xs k i j n e below =
    let long : j - i ≡ k = omega arith in
    rw long (get_or-chunk i k xs n (record { i = pos 0; q = pos 0 }) below)

-- the first place apart from the others
total-front : (f : ℕ → ℤ) (n : ℕ) → total_below (suc n) f ≡ f 0 +ℤ total_below n (λ k. f (suc k))
unfolding total_below
total-front f zero = omega (arith, ints)
total-front f (suc n) = omega (arith, ints, total-front f n)

pub energy-total : (xs : List Sample) → energy_of xs ≡ total_below (length xs) (λ n. power_of (sample_at xs n))
unfolding energy_of total_below
energy-total [] = refl
energy-total (x ∷ xs) = ap (λ e. power_of x +ℤ e) (energy-total xs) ∙ sym (total-front (λ n. power_of (sample_at (x ∷ xs) n)) (length xs))

pub dot-total_re : (xs ys : List Sample) → length xs ≡ length ys → (dot_of xs ys).re ≡ total_below (length xs) (λ n. (product_of (sample_at xs n) (sample_at ys n)).re)
unfolding dot_of total_below
dot-total_re [] ys h = refl
dot-total_re (x ∷ xs) [] h = absurd (omega arith)
dot-total_re (x ∷ xs) (y ∷ ys) h =
    ap (λ e. (product_of x y).re +ℤ e) (dot-total_re xs ys (omega arith)) ∙ sym (total-front (λ n. (product_of (sample_at (x ∷ xs) n) (sample_at (y ∷ ys) n)).re) (length xs))

pub dot-total_im : (xs ys : List Sample) → length xs ≡ length ys → (dot_of xs ys).im ≡ total_below (length xs) (λ n. (product_of (sample_at xs n) (sample_at ys n)).im)
unfolding dot_of total_below
dot-total_im [] ys h = refl
dot-total_im (x ∷ xs) [] h = absurd (omega arith)
dot-total_im (x ∷ xs) (y ∷ ys) h =
    ap (λ e. (product_of x y).im +ℤ e) (dot-total_im xs ys (omega arith)) ∙ sym (total-front (λ n. (product_of (sample_at (x ∷ xs) n) (sample_at (y ∷ ys) n)).im) (length xs))

-- the products of a chunk are as small as those before it
pub products-more : (a b : List Sample) (i j m : ℕ) → j ≡ i + 4 → m ≡ i + 4 → ((n : ℕ) → n < i → IsWithin (2 ^ 31) (product_of (sample_at a n) (sample_at b n))) → ((n : ℕ) → n < 4 → IsWithin (2 ^ 31) (product_of (sample_at (slice_range a i j) n) (sample_at (slice_range b i j) n))) → (n : ℕ) → n < m → IsWithin (2 ^ 31) (product_of (sample_at a n) (sample_at b n))
products-more a b i j m e f before chunk n below =
    elim (cases_lt n i) [
      | inl here ↦ before n here
      | inr past ↦
          let at : i + (n - i) ≡ n = omega arith in
          let within : n - i < 4 = omega arith in
          let small = rw (sample-chunk a 4 i j (n - i) e within, sample-chunk b 4 i j (n - i) e within) at (chunk (n - i) within) in
          rw at at small
    ]
