-- The way back through the two permutations, by the standard's formulas (IEEE Std 802.11-2012,
-- 18.3.5.7). The contract of `unplace` says that they lead to the place whose image is given.
use Rattle.std.specs.Prelude.{ℕ, ◌+◌, ◌-◌, ◌*◌, ◌/◌, ◌%◌}

-- the place from which the second permutation fills place j
abbrev pub second_source : ℕ → ℕ → ℕ → ℕ
second_source coded_bits s j = s * (j / s) + (j + (16 * j) / coded_bits) % s

-- the place from which the first permutation fills place i
abbrev pub first_source : ℕ → ℕ → ℕ
first_source coded_bits i = 16 * i - (coded_bits - 1) * ((16 * i) / coded_bits)
