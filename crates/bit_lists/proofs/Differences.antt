-- The places that differ, counted in parts.
use Rattle.std.proofs.Common.{◌≡◌, ℕ, zero, suc, ◌+◌, List, [], ◌∷◌, take, drop, refl, arith}
use Rattle.byte_lanes.specs.Differences.{differences_of}

-- with nothing to compare with, none differ
none : (xs : List ℕ) → differences_of xs [] ≡ 0
unfolding differences_of
none [] = refl
none (x ∷ xs) = refl

pub differences_of-split : (n : ℕ) (a b : List ℕ) → differences_of (take n a) (take n b) + differences_of (drop n a) (drop n b) ≡ differences_of a b
unfolding differences_of
differences_of-split zero a b = omega arith
differences_of-split (suc n) [] ys = omega arith
differences_of-split (suc n) (x ∷ xs) [] = omega (arith, none (drop n xs))
differences_of-split (suc n) (x ∷ xs) (y ∷ ys) = let rest = differences_of-split n xs ys in omega (arith, rest)
