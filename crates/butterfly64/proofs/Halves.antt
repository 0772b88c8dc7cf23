-- Staged sums, from one level to the next.
use Rattle.std.proofs.Common.{◌≡◌, ℕ, zero, suc, ◌+◌, ◌*◌, ◌/◌, ◌%◌, ◌^◌, ◌<◌, ◌∙◌, arith, true, false, ltb}
use Rattle.std.proofs.lemmas.Bool.{lt-ltb}
use Rattle.std.proofs.Math.Nat.{mod-eq_of_lt, add-mod_left, pow-suc}
use Rattle.fixed_complex.specs.declared.Cx.{Cx}
use Rattle.fixed_complex.specs.Pairs.{plus, minus, scaled_product}
use Rattle.butterfly64.specs.StagedSums.{stage_turn, joined, up_at, half_sums, turned_differences, down_at}

-- two lists of pairs with the same pair at each place
pub same_functions : (x y : ℕ → Cx) → ((m : ℕ) → x m ≡ y m) → x ≡ y
same_functions x y h = λ i m. h m i

-- ---- a join
-- in its first half
pub joined-first : (k : ℕ) (even odd : ℕ → Cx) (n : ℕ) → n < 2 ^ k → joined k even odd n ≡ plus (even n) (scaled_product (stage_turn k n) (odd n))
joined-first k even odd n h =
    let here : n % 2 ^ k ≡ n = mod-eq_of_lt h in
    let first : ltb n (2 ^ k) ≡ true = lt-ltb n (2 ^ k) h in
    rw (here, first)

-- and in its second
pub joined-last : (k : ℕ) (even odd : ℕ → Cx) (j : ℕ) → j < 2 ^ k → joined k even odd (2 ^ k + j) ≡ minus (even j) (scaled_product (stage_turn k j) (odd j))
joined-last k even odd j h =
    let here : (2 ^ k + j) % 2 ^ k ≡ j = add-mod_left (2 ^ k) j ∙ mod-eq_of_lt h in
    let last : ltb (2 ^ k + j) (2 ^ k) ≡ false = grind arith in
    rw (here, last)

-- ---- what no place of the list tells apart
pub up_at-local : (k : ℕ) (x y : ℕ → Cx) → ((m : ℕ) → m < 2 ^ k → x m ≡ y m) → (n : ℕ) → up_at k x n ≡ up_at k y n
unfolding up_at
up_at-local zero x y h n = h 0 (omega arith)
up_at-local (suc k) x y h n =
    let j = n % 2 ^ k in
    let even = up_at-local k (λ m. x (2 * m)) (λ m. y (2 * m)) (λ m lt. h (2 * m) (omega (arith, pow-suc 2 k))) j in
    let odd = up_at-local k (λ m. x (2 * m + 1)) (λ m. y (2 * m + 1)) (λ m lt. h (2 * m + 1) (omega (arith, pow-suc 2 k))) j in
    rw (even, odd)

pub down_at-local : (k : ℕ) (x y : ℕ → Cx) → ((m : ℕ) → m < 2 ^ k → x m ≡ y m) → (n : ℕ) → down_at k x n ≡ down_at k y n
unfolding down_at
down_at-local zero x y h n = h 0 (omega arith)
down_at-local (suc k) x y h n =
    let here : (m : ℕ) → m < 2 ^ k → x m ≡ y m = λ m lt. h m (omega (arith, pow-suc 2 k)) in
    let there : (m : ℕ) → m < 2 ^ k → x (m + 2 ^ k) ≡ y (m + 2 ^ k) = λ m lt. h (m + 2 ^ k) (omega (arith, pow-suc 2 k)) in
    let sums = down_at-local k (half_sums k x) (half_sums k y) (λ m lt. rw (here m lt, there m lt)) (n / 2) in
    let differences = down_at-local k (turned_differences k x) (turned_differences k y) (λ m lt. rw (here m lt, there m lt)) (n / 2) in
    rw (sums, differences)

-- ---- even and odd places of `down`
pub down_at-even : (k : ℕ) (x : ℕ → Cx) (j : ℕ) → down_at (suc k) x (2 * j) ≡ down_at k (half_sums k x) j
unfolding down_at
down_at-even k x j =
    let even : (2 * j) % 2 ≡ 0 = omega arith in
    let half : (2 * j) / 2 ≡ j = omega arith in
    rw (even, half)

pub down_at-odd : (k : ℕ) (x : ℕ → Cx) (j : ℕ) → down_at (suc k) x (2 * j + 1) ≡ down_at k (turned_differences k x) j
unfolding down_at
down_at-odd k x j =
    let odd : (2 * j + 1) % 2 ≡ 1 = omega arith in
    let half : (2 * j + 1) / 2 ≡ j = omega arith in
    rw (odd, half)
