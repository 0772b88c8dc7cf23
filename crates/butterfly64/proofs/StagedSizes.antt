-- The sizes of staged sums, level by level.
use Rattle.std.proofs.Common.{◌≡◌, ℕ, zero, suc, ◌+◌, ◌-◌, ◌*◌, ◌/◌, ◌%◌, ◌^◌, ◌≤◌, ap, arith, refl, true, false, cond, nat_lt, nat_eq}
use Rattle.fixed_complex.specs.declared.Cx.{Cx}
use Rattle.fixed_complex.specs.Pairs.{IsOfSize, plus, minus, conjugate, scaled_product}
use Rattle.butterfly64.specs.Budgets.{grown_size}
use Rattle.butterfly64.specs.StagedSums.{stage_turn, joined, up_at, half_sums, turned_differences, down_at}
use Rattle.fixed_complex.proofs.TurnLaws.{turn-size}
use Rattle.fixed_complex.proofs.PairSizes.{wider, size-plus, size-minus, size-conjugate, size-scaled_product}

-- and so many joins
abbrev pub grown_by : ℕ → ℕ → ℕ
grown_by zero s = s
grown_by (suc k) s = grown_size (grown_by k s)

-- all places of a list of pairs, given by place
abbrev pub All_of_size : ℕ → (ℕ → Cx) → Type 0
All_of_size s x = (n : ℕ) → IsOfSize s (x n)

size_joined : (k s : ℕ) (even odd : ℕ → Cx) → All_of_size s even → All_of_size s odd → All_of_size (grown_size s) (joined k even odd)
size_joined k s even odd p q n =
    let j = n % 2 ^ k in
    let t = scaled_product (stage_turn k j) (odd j) in
    let ts : IsOfSize (s + s / 1048576 + 2) t = size-scaled_product s (stage_turn k j) (odd j) (turn-size (2 ^ (5 - k) * j)) (q j) in
    let narrow : s + (s + s / 1048576 + 2) ≤ grown_size s = omega arith in
    elim (nat_lt n (2 ^ k)) as (λ b. IsOfSize (grown_size s) (cond b (plus (even j) t) (minus (even j) t))) [
      | true ↦ wider _ _ _ narrow (size-plus s _ (even j) t (p j) ts)
      | false ↦ wider _ _ _ narrow (size-minus s _ (even j) t (p j) ts)
    ]

-- up
pub size-up_at : (k s : ℕ) (x : ℕ → Cx) → All_of_size s x → All_of_size (grown_by k s) (up_at k x)
unfolding up_at
size-up_at zero s x p n = p 0
size-up_at (suc k) s x p n =
    size_joined k (grown_by k s) (up_at k (λ m. x (2 * m))) (up_at k (λ m. x (2 * m + 1)))
    (size-up_at k s (λ m. x (2 * m)) (λ m. p (2 * m)))
    (size-up_at k s (λ m. x (2 * m + 1)) (λ m. p (2 * m + 1))) n

-- the two lists of the next level
pub size-half_sums : (k s : ℕ) (x : ℕ → Cx) → All_of_size s x → All_of_size (grown_size s) (half_sums k x)
size-half_sums k s x p n = let narrow : s + s ≤ grown_size s = omega arith in wider _ _ _ narrow (size-plus s s (x n) (x (n + 2 ^ k)) (p n) (p (n + 2 ^ k)))

pub size-turned_differences : (k s : ℕ) (x : ℕ → Cx) → All_of_size s x → All_of_size (grown_size s) (turned_differences k x)
size-turned_differences k s x p n =
    let narrow : (s + s) + (s + s) / 1048576 + 2 ≤ grown_size s = omega arith in
    wider _ _ _ narrow (size-scaled_product (s + s) (conjugate (stage_turn k n)) _
    (size-conjugate _ _ (turn-size (2 ^ (5 - k) * n)))
    (size-minus s s (x n) (x (n + 2 ^ k)) (p n) (p (n + 2 ^ k))))

-- a join more at the front of the joins
grown_first : (k s : ℕ) → grown_by k (grown_size s) ≡ grown_size (grown_by k s)
grown_first zero s = refl
grown_first (suc k) s = ap grown_size (grown_first k s)

-- down
pub size-down_at : (k s : ℕ) (x : ℕ → Cx) → All_of_size s x → All_of_size (grown_by k s) (down_at k x)
unfolding down_at
size-down_at zero s x p n = p 0
size-down_at (suc k) s x p n =
    rw (← grown_first k s) (elim (nat_eq (n % 2) 0) as (λ b. IsOfSize (grown_by k (grown_size s)) (cond b (down_at k (half_sums k x) (n / 2)) (down_at k (turned_differences k x) (n / 2)))) [
      | true ↦ size-down_at k (grown_size s) (half_sums k x) (size-half_sums k s x p) (n / 2)
      | false ↦ size-down_at k (grown_size s) (turned_differences k x) (size-turned_differences k s x p) (n / 2)
    ])

-- six joins, where no pair is larger than 2^31
pub six_joins : (s : ℕ) → s ≤ 2 ^ 31 → grown_by 6 s ≤ 65 * s + 256
six_joins s h = omega arith
