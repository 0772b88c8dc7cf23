-- How far staged sums may be from plain ones, join by join (own).
use Rattle.std.specs.Prelude.{ℕ, zero, suc, ◌+◌, ◌*◌, ◌/◌, ◌^◌}

-- 2^20 times what rounding to a whole number may add, as a size: 2^19 in both components, which is 741455.2
abbrev pub rounding : ℕ
rounding = 741456

-- how far a product of two turns may be from 2^20 times the turn of their sum, as a size, and the largest turn
abbrev pub product_error : ℕ
product_error = 1387885

abbrev pub largest_turn : ℕ
largest_turn = 1048577

-- in units of 1 / 2^20: a join of 2^k and 2^k sums adds the even sums' budget, that of the odd sums turned, the
-- errors of the table and the rounding, and 1 for each of two quotients that are rounded down
abbrev pub joined_budget : ℕ → ℕ → ℕ → ℕ
joined_budget k size budget =
    budget + (budget + budget / 2 ^ 20 + 2 ^ k * (size * product_error) / 2 ^ 20 + (rounding + 2))

-- the budget of staged sums of 2^k pairs of at most a size
abbrev pub budget_of : ℕ → ℕ → ℕ
budget_of zero size = 0
budget_of (suc k) size = joined_budget k size (budget_of k size)

-- what a stage takes a size to
abbrev pub grown_size : ℕ → ℕ
grown_size size = 2 * size + 2 * size / 2 ^ 20 + 2

-- the budget of staged sums `down` of 2^k pairs of at most a size: that of the next level, and the errors of
-- rounding and of the table in a stage's differences
abbrev pub down_budget_of : ℕ → ℕ → ℕ
down_budget_of zero size = 0
down_budget_of (suc k) size =
    down_budget_of k (grown_size size)
    + (2 ^ k * (rounding * largest_turn + 2 * size * product_error) / 2 ^ 20 + 1)
