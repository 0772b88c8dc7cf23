-- Bounds on the numbers of a list.
use Rattle.std.proofs.Common.{◌≡◌, ℕ, ◌<◌, ◌≤◌, List, length, inl, inr, arith}
use Rattle.std.specs.Prelude.{ℤ, pos, unsigned_abs}
use Rattle.std.proofs.lemmas.Bool.{cases_lt}
use Rattle.std.proofs.lemmas.List.{get_or_past}
use Rattle.fixed_complex.specs.Numbers.{NumbersWithin, number_at}

-- eight numbers are within a bound where each of them is
pub within_eight : (bound : ℕ) (numbers : List ℤ) → length numbers ≡ 8 → ((n : ℕ) → n < 8 → unsigned_abs (number_at numbers n) ≤ bound) → NumbersWithin bound numbers
within_eight bound numbers long h = λ n.
    elim (cases_lt n 8) [
      | inl here ↦ h n here
      | inr past ↦ rw (get_or_past numbers n (pos 0) (omega arith)) (omega arith)
    ]

-- a larger bound is a bound
pub numbers_wider : (a b : ℕ) (numbers : List ℤ) → a ≤ b → NumbersWithin a numbers → NumbersWithin b numbers
numbers_wider a b numbers h within = λ n. omega (arith, within n)
