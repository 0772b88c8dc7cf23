-- Rounding half up (own).
use Rattle.std.specs.Prelude.{ℕ, ◌-◌, ◌^◌, ℤ, pos, ◌+ℤ◌}
use Rattle.integer_laws.specs.Floor.{floor_div}

-- a number over 2^bits, rounded to the nearest whole number, a half up: the floor of (number + 2^(bits - 1)) / 2^bits
abbrev pub half_up : ℕ → ℤ → ℤ
half_up bits number = floor_div (number +ℤ pos (2 ^ (bits - 1))) (2 ^ bits)
