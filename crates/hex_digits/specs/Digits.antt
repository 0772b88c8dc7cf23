-- Hexadecimal digits in lower case (own).
use Rattle.std.specs.Prelude.{ℕ, ◌≤◌, ◌⊎◌}

-- a digit: `0` to `9`, or `a` to `f`
abbrev pub IsDigit : ℕ → Type 0
IsDigit byte = ((48 ≤ byte) × (byte ≤ 57)) ⊎ ((97 ≤ byte) × (byte ≤ 102))
