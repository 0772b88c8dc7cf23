-- What the laws of the turns speak of (own).
use Rattle.std.specs.Prelude.{ℕ, zero, suc}
use Rattle.fixed_complex.specs.declared.Cx.{Cx}
use Rattle.fixed_complex.specs.Pairs.{plus, zero_pair}

-- the sum of the pairs at the places below a number
unfoldable pub sum_below : ℕ → (ℕ → Cx) → Cx
sum_below zero pairs = zero_pair
sum_below (suc n) pairs = plus (sum_below n pairs) (pairs n)
