-- Entries of eight lanes, and sums by place.
use Rattle.std.proofs.Common.{◌≡◌, ℕ, zero, suc, ◌+◌, ◌<◌, ℤ, pos, ◌+ℤ◌, refl, arith}
use Rattle.lane_kernels.specs.Lanes.{eight, total_below}
use Rattle.fixed_complex.specs.Numbers.{number_at}

-- what holds of each of them and of 0 holds at every place
pub eight-each : (P : ℤ → Type 0) (f : ℕ → ℤ) → P (f 0) → P (f 1) → P (f 2) → P (f 3) → P (f 4) → P (f 5) → P (f 6) → P (f 7) → P (pos 0) → (n : ℕ) → P (number_at (eight f) n)
eight-each P f h0 h1 h2 h3 h4 h5 h6 h7 none zero = h0
eight-each P f h0 h1 h2 h3 h4 h5 h6 h7 none (suc zero) = h1
eight-each P f h0 h1 h2 h3 h4 h5 h6 h7 none (suc (suc zero)) = h2
eight-each P f h0 h1 h2 h3 h4 h5 h6 h7 none (suc (suc (suc zero))) = h3
eight-each P f h0 h1 h2 h3 h4 h5 h6 h7 none (suc (suc (suc (suc zero)))) = h4
eight-each P f h0 h1 h2 h3 h4 h5 h6 h7 none (suc (suc (suc (suc (suc zero))))) = h5
eight-each P f h0 h1 h2 h3 h4 h5 h6 h7 none (suc (suc (suc (suc (suc (suc zero)))))) = h6
eight-each P f h0 h1 h2 h3 h4 h5 h6 h7 none (suc (suc (suc (suc (suc (suc (suc zero))))))) = h7
eight-each P f h0 h1 h2 h3 h4 h5 h6 h7 none (suc (suc (suc (suc (suc (suc (suc (suc n)))))))) = none

-- each of them stands at its place
pub eight-at : (f : ℕ → ℤ) (n : ℕ) → n < 8 → number_at (eight f) n ≡ f n
eight-at f zero h = refl
eight-at f (suc zero) h = refl
eight-at f (suc (suc zero)) h = refl
eight-at f (suc (suc (suc zero))) h = refl
eight-at f (suc (suc (suc (suc zero)))) h = refl
eight-at f (suc (suc (suc (suc (suc zero))))) h = refl
eight-at f (suc (suc (suc (suc (suc (suc zero)))))) h = refl
eight-at f (suc (suc (suc (suc (suc (suc (suc zero))))))) h = refl
eight-at f (suc (suc (suc (suc (suc (suc (suc (suc n)))))))) h = absurd (omega arith)

-- one place more
pub total-one : (f : ℕ → ℤ) (m n : ℕ) → n ≡ m + 1 → total_below n f ≡ total_below m f +ℤ f m
unfolding total_below
total-one f m n e = let is : n ≡ suc m = omega arith in rw is refl
