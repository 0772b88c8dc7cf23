-- The size of a pair of whole numbers (own): it is at most a where the sum of the squares is at most a * a.
use Rattle.std.specs.Prelude.{ℤ, ◌+ℤ◌, ◌*ℤ◌}

-- x * x + y * y
abbrev pub sum_of_squares : ℤ → ℤ → ℤ
sum_of_squares x y = x *ℤ x +ℤ y *ℤ y
