-- Staged sums of 1, 2, 4, 8, 16, 32 or 64 pairs: the sums of a turn, rounded at each join of two halves (own).
use Rattle.std.specs.Prelude.{ℕ, zero, suc, ◌+◌, ◌-◌, ◌*◌, ◌/◌, ◌%◌, ◌^◌, List, map, nat_eq, nat_lt, if◌then◌else◌}
use Rattle.std.specs.List.{range_with_len}
use Rattle.fixed_complex.specs.declared.Cx.{Cx}
use Rattle.fixed_complex.specs.Pairs.{plus, minus, conjugate, scaled_product}
use Rattle.fixed_complex.specs.Turns.{turn_at}
use Rattle.fixed_complex.specs.PairLists.{entry}

-- the turn of place j, for lists of 2^(k + 1): T[64 * j / 2^(k + 1)]
abbrev pub stage_turn : ℕ → ℕ → Cx
stage_turn k j = turn_at (2 ^ (5 - k) * j)

-- place n of the list that joins 2^k sums of the even and 2^k sums of the odd places: E[j] + t in its first half
-- and E[j] - t in its second, where t is the odd sum, turned
abbrev pub joined : ℕ → (ℕ → Cx) → (ℕ → Cx) → ℕ → Cx
joined k even odd n =
    let j = n % 2 ^ k in
    let t = scaled_product (stage_turn k j) (odd j) in
    if nat_lt n (2 ^ k) then plus (even j) t else minus (even j) t

-- place n of the staged sums `up` of the 2^k pairs of a list
unfoldable pub up_at : ℕ → (ℕ → Cx) → ℕ → Cx
up_at zero x n = x 0
up_at (suc k) x n = joined k (up_at k (λ m. x (2 * m))) (up_at k (λ m. x (2 * m + 1))) n

-- of 2^(k + 1) pairs: the sum of those at n and half the list further
abbrev pub half_sums : ℕ → (ℕ → Cx) → ℕ → Cx
half_sums k x n = plus (x n) (x (n + 2 ^ k))

-- and their difference, turned back
abbrev pub turned_differences : ℕ → (ℕ → Cx) → ℕ → Cx
turned_differences k x n = scaled_product (conjugate (stage_turn k n)) (minus (x n) (x (n + 2 ^ k)))

-- place n of the staged sums `down` of the 2^k pairs of a list
unfoldable pub down_at : ℕ → (ℕ → Cx) → ℕ → Cx
down_at zero x n = x 0
down_at (suc k) x n =
    if nat_eq (n % 2) 0 then down_at k (half_sums k x) (n / 2)
    else down_at k (turned_differences k x) (n / 2)

-- the staged sums of 64 pairs
abbrev pub up_sums : List Cx → List Cx
up_sums xs = map (up_at 6 (entry xs)) (range_with_len 0 64)

abbrev pub down_sums : List Cx → List Cx
down_sums xs = map (down_at 6 (entry xs)) (range_with_len 0 64)
