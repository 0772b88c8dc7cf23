-- Division that rounds down (own).
use Rattle.std.specs.Prelude.{ℕ, ◌/◌, ℤ, pos, negsuc}

-- the floor of z over n, which is above 0
abbrev pub floor_div : ℤ → ℕ → ℤ
floor_div (pos z) n = pos (z / n)
floor_div (negsuc z) n = negsuc (z / n)
