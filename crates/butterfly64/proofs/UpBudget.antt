-- How near the staged sums `up` are to the plain ones, join by join.
use Rattle.std.proofs.Common.{◌≡◌, ℕ, zero, suc, ◌+◌, ◌-◌, ◌*◌, ◌/◌, ◌^◌, ◌<◌, ◌≤◌, refl, ap, sym, ◌∙◌, arith, eqb, inl, inr, true}
use Rattle.std.specs.Prelude.{ℤ, pos, negsuc, ◌+ℤ◌, ◌-ℤ◌, ◌*ℤ◌}
use Rattle.std.proofs.lemmas.Bool.{cases_lt, eqb-true, agree_below_at}
use Rattle.std.proofs.Math.Nat.{pow-suc}
use Rattle.fixed_complex.specs.declared.Cx.{Cx}
use Rattle.fixed_complex.specs.Laws.{sum_below}
use Rattle.fixed_complex.specs.Pairs.{IsOfSize, zero_pair, plus, minus, multiple, times, scaled_product}
use Rattle.fixed_complex.specs.Turns.{turn_at}
use Rattle.integer_laws.proofs.Ring.{ring, number, ◌⊕◌, ◌⊖◌, ◌⊗◌, ◌≗◌}
use Rattle.integer_laws.proofs.Sizes.{size_of_rounding, size_of_unscaled}
use Rattle.integer_laws.proofs.Order.{pos-le}
use Rattle.butterfly64.specs.Budgets.{budget_of}
use Rattle.butterfly64.specs.PlainSums.{plain_up}
use Rattle.butterfly64.specs.StagedSums.{stage_turn, up_at}
use Rattle.fixed_complex.proofs.PairSizes.{wider, size-plus, size-minus, size-multiple, size-times}
use Rattle.fixed_complex.proofs.TurnLaws.{turn-size, turn-half, size-product_of_turns}
use Rattle.butterfly64.proofs.Halves.{joined-first, joined-last}
use Rattle.fixed_complex.proofs.Pairs.{same_parts}
use Rattle.fixed_complex.proofs.Sums.{same_sums, sum_even_odd, times_sum, multiple_sum, minus_sums, size-sum}
use Rattle.fixed_complex.proofs.Turning.{whole_turns}

-- the plain sum over 2^k places
abbrev pub plain_at : ℕ → (ℕ → Cx) → ℕ → Cx
plain_at k x n = sum_below (2 ^ k) (λ m. times (x m) (turn_at (2 ^ (6 - k) * (m * n))))

-- ---- identities of pairs
-- a product of three, less a multiple of another
product_error : (w x a t : Cx) (c : ℤ) → minus (times w (times x a)) (multiple c (times x t)) ≡ times x (minus (times a w) (multiple c t))
unfolding times
product_error w x a t c = same_parts _ _ (re w.re w.im x.re x.im a.re a.im t.re t.im c) (im w.re w.im x.re x.im a.re a.im t.re t.im c)
  where
    re : (p q x y a b t u c : ℤ) → (p *ℤ (x *ℤ a -ℤ y *ℤ b) -ℤ q *ℤ (x *ℤ b +ℤ y *ℤ a)) -ℤ c *ℤ (x *ℤ t -ℤ y *ℤ u) ≡ x *ℤ ((a *ℤ p -ℤ b *ℤ q) -ℤ c *ℤ t) -ℤ y *ℤ ((a *ℤ q +ℤ b *ℤ p) -ℤ c *ℤ u)
    re = ring 9 (λ p q x y a b t u c. (p ⊗ (x ⊗ a ⊖ y ⊗ b) ⊖ q ⊗ (x ⊗ b ⊕ y ⊗ a)) ⊖ c ⊗ (x ⊗ t ⊖ y ⊗ u) ≗ x ⊗ ((a ⊗ p ⊖ b ⊗ q) ⊖ c ⊗ t) ⊖ y ⊗ ((a ⊗ q ⊕ b ⊗ p) ⊖ c ⊗ u)) refl

    im : (p q x y a b t u c : ℤ) → (p *ℤ (x *ℤ b +ℤ y *ℤ a) +ℤ q *ℤ (x *ℤ a -ℤ y *ℤ b)) -ℤ c *ℤ (x *ℤ u +ℤ y *ℤ t) ≡ x *ℤ ((a *ℤ q +ℤ b *ℤ p) -ℤ c *ℤ u) +ℤ y *ℤ ((a *ℤ p -ℤ b *ℤ q) -ℤ c *ℤ t)
    im = ring 9 (λ p q x y a b t u c. (p ⊗ (x ⊗ b ⊕ y ⊗ a) ⊕ q ⊗ (x ⊗ a ⊖ y ⊗ b)) ⊖ c ⊗ (x ⊗ u ⊕ y ⊗ t) ≗ x ⊗ ((a ⊗ q ⊕ b ⊗ p) ⊖ c ⊗ u) ⊕ y ⊗ ((a ⊗ p ⊖ b ⊗ q) ⊖ c ⊗ t)) refl

-- the error of a turned sum, by way of the turned sum and of the turned plain sum
turned_error : (c : ℤ) (w o b t s : Cx) → multiple c (minus (multiple c t) s) ≡ plus (plus (multiple c (minus (multiple c t) (times w o))) (times w (minus (multiple c o) b))) (minus (times w b) (multiple c s))
unfolding times
turned_error c w o b t s = same_parts _ _ (re c w.re w.im o.re o.im b.re b.im t.re s.re) (im c w.re w.im o.re o.im b.re b.im t.im s.im)
  where
    re : (c p q o v b d t s : ℤ) → c *ℤ (c *ℤ t -ℤ s) ≡ (c *ℤ (c *ℤ t -ℤ (p *ℤ o -ℤ q *ℤ v)) +ℤ (p *ℤ (c *ℤ o -ℤ b) -ℤ q *ℤ (c *ℤ v -ℤ d))) +ℤ ((p *ℤ b -ℤ q *ℤ d) -ℤ c *ℤ s)
    re = ring 9 (λ c p q o v b d t s. c ⊗ (c ⊗ t ⊖ s) ≗ (c ⊗ (c ⊗ t ⊖ (p ⊗ o ⊖ q ⊗ v)) ⊕ (p ⊗ (c ⊗ o ⊖ b) ⊖ q ⊗ (c ⊗ v ⊖ d))) ⊕ ((p ⊗ b ⊖ q ⊗ d) ⊖ c ⊗ s)) refl

    im : (c p q o v b d t s : ℤ) → c *ℤ (c *ℤ t -ℤ s) ≡ (c *ℤ (c *ℤ t -ℤ (p *ℤ v +ℤ q *ℤ o)) +ℤ (p *ℤ (c *ℤ v -ℤ d) +ℤ q *ℤ (c *ℤ o -ℤ b))) +ℤ ((p *ℤ d +ℤ q *ℤ b) -ℤ c *ℤ s)
    im = ring 9 (λ c p q o v b d t s. c ⊗ (c ⊗ t ⊖ s) ≗ (c ⊗ (c ⊗ t ⊖ (p ⊗ v ⊕ q ⊗ o)) ⊕ (p ⊗ (c ⊗ v ⊖ d) ⊕ q ⊗ (c ⊗ o ⊖ b))) ⊕ ((p ⊗ d ⊕ q ⊗ b) ⊖ c ⊗ s)) refl

-- errors of a sum and of a difference
sum_error : (c : ℤ) (e t a s : Cx) → minus (multiple c (plus e t)) (plus a s) ≡ plus (minus (multiple c e) a) (minus (multiple c t) s)
sum_error c e t a s = same_parts _ _ (law c e.re t.re a.re s.re) (law c e.im t.im a.im s.im)
  where
    law : (c e t a s : ℤ) → c *ℤ (e +ℤ t) -ℤ (a +ℤ s) ≡ (c *ℤ e -ℤ a) +ℤ (c *ℤ t -ℤ s)
    law = ring 5 (λ c e t a s. c ⊗ (e ⊕ t) ⊖ (a ⊕ s) ≗ (c ⊗ e ⊖ a) ⊕ (c ⊗ t ⊖ s)) refl

difference_error : (c : ℤ) (e t a s : Cx) → minus (multiple c (minus e t)) (minus a s) ≡ minus (minus (multiple c e) a) (minus (multiple c t) s)
difference_error c e t a s = same_parts _ _ (law c e.re t.re a.re s.re) (law c e.im t.im a.im s.im)
  where
    law : (c e t a s : ℤ) → c *ℤ (e -ℤ t) -ℤ (a -ℤ s) ≡ (c *ℤ e -ℤ a) -ℤ (c *ℤ t -ℤ s)
    law = ring 5 (λ c e t a s. c ⊗ (e ⊖ t) ⊖ (a ⊖ s) ≗ (c ⊗ e ⊖ a) ⊖ (c ⊗ t ⊖ s)) refl

-- ---- sizes of errors
-- what rounding adds
pub rounding_size : (w z : Cx) → IsOfSize 741456 (minus (multiple (pos 1048576) (scaled_product w z)) (times w z))
unfolding scaled_product
rounding_size w z = record { size = size_of_rounding (times w z).re (times w z).im 524288 741456 (omega arith) (omega arith) }

-- a turned sum, where what it is turned from and the table have these errors
turned_size : (b v : ℕ) (w o p t s : Cx) → IsOfSize 1048577 w → IsOfSize 741456 (minus (multiple (pos 1048576) t) (times w o)) → IsOfSize b (minus (multiple (pos 1048576) o) p) → IsOfSize v (minus (times w p) (multiple (pos 1048576) s))
    → IsOfSize (b + b / 1048576 + v / 1048576 + 741458) (minus (multiple (pos 1048576) t) s)
turned_size b v w o p t s w_size rounded odd table =
    let whole = minus (multiple (pos 1048576) t) s in
    let bound = b + b / 1048576 + v / 1048576 + 741458 in
    let parts : IsOfSize (1048576 * 741456 + 1048577 * b + v) (multiple (pos 1048576) whole) = rw (turned_error (pos 1048576) w o p t s)
    (size-plus (1048576 * 741456 + 1048577 * b) v _ _
    (size-plus (1048576 * 741456) (1048577 * b) _ _ (size-multiple 1048576 741456 (minus (multiple (pos 1048576) t) (times w o)) rounded) (size-times 1048577 b w (minus (multiple (pos 1048576) o) p) w_size odd))
    table) in
    record { size = size_of_unscaled 1048576 whole.re whole.im bound (omega arith) (wider (1048576 * 741456 + 1048577 * b + v) (1048576 * bound) (multiple (pos 1048576) whole) (omega arith) parts).size }

-- ---- a plain sum by even and odd places
-- the plain sum, each entry turned once more
abbrev turned_plain : ℕ → (ℕ → Cx) → ℕ → Cx
turned_plain k x j = sum_below (2 ^ k) (λ m. times (x m) (turn_at (2 ^ (6 - k) * (m * j) + 2 ^ (5 - k) * j)))

-- places of turns
even_place : (h q m n : ℕ) → q ≡ 2 * h → h * (2 * m * n) ≡ q * (m * n)
even_place h q m n e = rw e (omega arith)

odd_place : (h q m n : ℕ) → q ≡ 2 * h → h * ((2 * m + 1) * n) ≡ q * (m * n) + h * n
odd_place h q m n e = rw e (omega arith)

even_place_on : (h q m p j : ℕ) → q ≡ 2 * h → h * p ≡ 32 → h * (2 * m * (p + j)) ≡ q * (m * j) + 64 * m
even_place_on h q m p j e f = rw e (omega (arith, ap (λ z. z * m) f))

odd_place_on : (h q m p j : ℕ) → q ≡ 2 * h → h * p ≡ 32 → h * ((2 * m + 1) * (p + j)) ≡ q * (m * j) + h * j + 64 * m + 32
odd_place_on h q m p j e f = rw e (omega (arith, f, ap (λ z. z * m) f))

-- the steps of a level
pub step_is : (k : ℕ) → k < 6 → 2 ^ (6 - suc k) ≡ 2 ^ (5 - k)
step_is k h = let e : 6 - suc k ≡ 5 - k = omega arith in ap (λ i. 2 ^ i) e

pub double_step : (k : ℕ) → k < 6 → 2 ^ (6 - k) ≡ 2 * 2 ^ (5 - k)
double_step k h = let e : 6 - k ≡ suc (5 - k) = omega arith in rw (e, pow-suc 2 (5 - k)) (omega arith)

pub half_turn : (k : ℕ) → k < 6 → 2 ^ (5 - k) * 2 ^ k ≡ 32
half_turn k h = eqb-true _ _ (agree_below_at (λ i. eqb (2 ^ (5 - i) * 2 ^ i) 32) (λ _. true) 6 k refl h)

halves : (k : ℕ) (x : ℕ → Cx) (n : ℕ) → k < 6 → plain_at (suc k) x n ≡ plus (sum_below (2 ^ k) (λ m. times (x (2 * m)) (turn_at (2 ^ (5 - k) * (2 * m * n))))) (sum_below (2 ^ k) (λ m. times (x (2 * m + 1)) (turn_at (2 ^ (5 - k) * ((2 * m + 1) * n)))))
halves k x n h =
    let places : 2 ^ suc k ≡ 2 * 2 ^ k = omega (arith, pow-suc 2 k) in
    rw (places, step_is k h) (sum_even_odd (2 ^ k) (λ m. times (x m) (turn_at (2 ^ (5 - k) * (m * n)))))

plain_first : (k : ℕ) (x : ℕ → Cx) (j : ℕ) → k < 6 → plain_at (suc k) x j ≡ plus (plain_at k (λ m. x (2 * m)) j) (turned_plain k (λ m. x (2 * m + 1)) j)
plain_first k x j h =
    halves k x j h
    ∙ ap (λ s. plus s (sum_below (2 ^ k) (λ m. times (x (2 * m + 1)) (turn_at (2 ^ (5 - k) * ((2 * m + 1) * j))))))
    (same_sums _ _ (λ m. ap (λ p. times (x (2 * m)) (turn_at p)) (even_place (2 ^ (5 - k)) (2 ^ (6 - k)) m j (double_step k h))) (2 ^ k))
    ∙ ap (plus (plain_at k (λ m. x (2 * m)) j))
    (same_sums _ _ (λ m. ap (λ p. times (x (2 * m + 1)) (turn_at p)) (odd_place (2 ^ (5 - k)) (2 ^ (6 - k)) m j (double_step k h))) (2 ^ k))

-- a product with a turn that is half a turn further, and a sum with what is negated
times_opposite : (x t : Cx) → times x (minus zero_pair t) ≡ multiple (negsuc 0) (times x t)
unfolding times
times_opposite x t = same_parts _ _ (re x.re x.im t.re t.im) (im x.re x.im t.re t.im)
  where
    re : (x y t u : ℤ) → x *ℤ (pos 0 -ℤ t) -ℤ y *ℤ (pos 0 -ℤ u) ≡ negsuc 0 *ℤ (x *ℤ t -ℤ y *ℤ u)
    re = ring 4 (λ x y t u. x ⊗ (number (pos 0) ⊖ t) ⊖ y ⊗ (number (pos 0) ⊖ u) ≗ number (negsuc 0) ⊗ (x ⊗ t ⊖ y ⊗ u)) refl

    im : (x y t u : ℤ) → x *ℤ (pos 0 -ℤ u) +ℤ y *ℤ (pos 0 -ℤ t) ≡ negsuc 0 *ℤ (x *ℤ u +ℤ y *ℤ t)
    im = ring 4 (λ x y t u. x ⊗ (number (pos 0) ⊖ u) ⊕ y ⊗ (number (pos 0) ⊖ t) ≗ number (negsuc 0) ⊗ (x ⊗ u ⊕ y ⊗ t)) refl

plus_opposite : (a s : Cx) → plus a (multiple (negsuc 0) s) ≡ minus a s
plus_opposite a s = same_parts _ _ (law a.re s.re) (law a.im s.im)
  where
    law : (a s : ℤ) → a +ℤ negsuc 0 *ℤ s ≡ a -ℤ s
    law = ring 2 (λ a s. a ⊕ number (negsuc 0) ⊗ s ≗ a ⊖ s) refl

-- one pair is its own sum
pub one_pair : (x : Cx) → minus (multiple (pos 1048576) x) (plus zero_pair (times x (record { re = pos 1048576; im = pos 0 }))) ≡ zero_pair
unfolding times
one_pair x = same_parts _ _ (re x.re x.im) (im x.re x.im)
  where
    re : (x y : ℤ) → pos 1048576 *ℤ x -ℤ (pos 0 +ℤ (x *ℤ pos 1048576 -ℤ y *ℤ pos 0)) ≡ pos 0
    re = ring 2 (λ x y. number (pos 1048576) ⊗ x ⊖ (number (pos 0) ⊕ (x ⊗ number (pos 1048576) ⊖ y ⊗ number (pos 0))) ≗ number (pos 0)) refl

    im : (x y : ℤ) → pos 1048576 *ℤ y -ℤ (pos 0 +ℤ (x *ℤ pos 0 +ℤ y *ℤ pos 1048576)) ≡ pos 0
    im = ring 2 (λ x y. number (pos 1048576) ⊗ y ⊖ (number (pos 0) ⊕ (x ⊗ number (pos 0) ⊕ y ⊗ number (pos 1048576))) ≗ number (pos 0)) refl

near_one : (x : ℕ → Cx) (n : ℕ) → IsOfSize 0 (minus (multiple (pos 1048576) (x 0)) (plain_at 0 x n))
unfolding sum_below turn_at
near_one x n =
    let place : 0 * n ≡ 0 = omega arith in
    rw (place, one_pair (x 0)) (record { size = pos-le 0 0 (omega arith) })

-- ---- from the laws of turns
plain_last : (k : ℕ) (x : ℕ → Cx) (j : ℕ) → k < 6 → plain_at (suc k) x (2 ^ k + j) ≡ minus (plain_at k (λ m. x (2 * m)) j) (turned_plain k (λ m. x (2 * m + 1)) j)
plain_last k x j h =
    let q = 2 ^ (6 - k) in
    let s = 2 ^ (5 - k) in
    halves k x (2 ^ k + j) h
    ∙ ap (λ t. plus t (sum_below (2 ^ k) (λ m. times (x (2 * m + 1)) (turn_at (s * ((2 * m + 1) * (2 ^ k + j)))))))
    (same_sums _ _ (λ m. ap (times (x (2 * m))) (ap turn_at (even_place_on s q m (2 ^ k) j (double_step k h) (half_turn k h)) ∙ whole_turns (q * (m * j)) m)) (2 ^ k))
    ∙ ap (plus (plain_at k (λ m. x (2 * m)) j))
    (same_sums _ (λ m. multiple (negsuc 0) (times (x (2 * m + 1)) (turn_at (q * (m * j) + s * j)))) (λ m.
    ap (times (x (2 * m + 1))) (ap turn_at (odd_place_on s q m (2 ^ k) j (double_step k h) (half_turn k h)) ∙ turn-half (q * (m * j) + s * j + 64 * m) ∙ ap (minus zero_pair) (whole_turns (q * (m * j) + s * j) m))
    ∙ times_opposite (x (2 * m + 1)) (turn_at (q * (m * j) + s * j))) (2 ^ k)
    ∙ sym (multiple_sum (negsuc 0) (2 ^ k) (λ m. times (x (2 * m + 1)) (turn_at (q * (m * j) + s * j)))))
    ∙ plus_opposite (plain_at k (λ m. x (2 * m)) j) (turned_plain k (λ m. x (2 * m + 1)) j)

-- the errors of the table in a turned plain sum
table_size : (k size : ℕ) (y : ℕ → Cx) (j : ℕ) → ((m : ℕ) → IsOfSize size (y m)) → IsOfSize (2 ^ k * (size * 1387885)) (minus (times (stage_turn k j) (plain_at k y j)) (multiple (pos 1048576) (turned_plain k y j)))
table_size k size y j h =
    let w = stage_turn k j in
    let place = λ (m : ℕ). 2 ^ (6 - k) * (m * j) in
    let same : minus (times w (plain_at k y j)) (multiple (pos 1048576) (turned_plain k y j)) ≡ sum_below (2 ^ k) (λ m. times (y m) (minus (times (turn_at (place m)) w) (multiple (pos 1048576) (turn_at (place m + 2 ^ (5 - k) * j))))) =
    ap (λ a. minus a (multiple (pos 1048576) (turned_plain k y j))) (times_sum w (2 ^ k) (λ m. times (y m) (turn_at (place m))))
    ∙ ap (minus (sum_below (2 ^ k) (λ m. times w (times (y m) (turn_at (place m)))))) (multiple_sum (pos 1048576) (2 ^ k) (λ m. times (y m) (turn_at (place m + 2 ^ (5 - k) * j))))
    ∙ minus_sums (2 ^ k) (λ m. times w (times (y m) (turn_at (place m)))) (λ m. multiple (pos 1048576) (times (y m) (turn_at (place m + 2 ^ (5 - k) * j))))
    ∙ same_sums _ _ (λ m. product_error w (y m) (turn_at (place m)) (turn_at (place m + 2 ^ (5 - k) * j)) (pos 1048576)) (2 ^ k) in
    rw same (size-sum (2 ^ k) (size * 1387885) _ (λ m _. size-times size 1387885 (y m) _ (h m) (size-product_of_turns (place m) (2 ^ (5 - k) * j))))

-- join by join
pub near_up : (k size : ℕ) (x : ℕ → Cx) → k ≤ 6 → ((m : ℕ) → IsOfSize size (x m)) → (n : ℕ) → n < 2 ^ k → IsOfSize (budget_of k size) (minus (multiple (pos 1048576) (up_at k x n)) (plain_at k x n))
unfolding up_at
near_up zero size x k_below h n lt = near_one x n
near_up (suc k) size x k_below h n lt =
    let even = λ (m : ℕ). x (2 * m) in
    let odd = λ (m : ℕ). x (2 * m + 1) in
    let b = budget_of k size in
    let turned = λ (j : ℕ) (j_lt : j < 2 ^ k). turned_size b (2 ^ k * (size * 1387885)) (stage_turn k j) (up_at k odd j) (plain_at k odd j) (scaled_product (stage_turn k j) (up_at k odd j)) (turned_plain k odd j)
    (turn-size (2 ^ (5 - k) * j)) (rounding_size (stage_turn k j) (up_at k odd j)) (near_up k size odd (omega arith) (λ m. h (2 * m + 1)) j j_lt) (table_size k size odd j (λ m. h (2 * m + 1))) in
    let below : k < 6 = omega arith in
    elim (cases_lt n (2 ^ k)) [
      | inl here ↦
          rw (joined-first k (up_at k even) (up_at k odd) n here, plain_first k x n below, sum_error (pos 1048576) (up_at k even n) (scaled_product (stage_turn k n) (up_at k odd n)) (plain_at k even n) (turned_plain k odd n))
          (size-plus b (b + b / 1048576 + 2 ^ k * (size * 1387885) / 1048576 + 741458) _ _ (near_up k size even (omega arith) (λ m. h (2 * m)) n here) (turned n here))
      | inr there ↦
          let j = n - 2 ^ k in
          let j_lt : j < 2 ^ k = omega (arith, pow-suc 2 k) in
          let place : n ≡ 2 ^ k + j = omega arith in
          rw (place, joined-last k (up_at k even) (up_at k odd) j j_lt, plain_last k x j below, difference_error (pos 1048576) (up_at k even j) (scaled_product (stage_turn k j) (up_at k odd j)) (plain_at k even j) (turned_plain k odd j))
          (size-minus b (b + b / 1048576 + 2 ^ k * (size * 1387885) / 1048576 + 741458) _ _ (near_up k size even (omega arith) (λ m. h (2 * m)) j j_lt) (turned j j_lt))
    ]

-- all 64
pub near_up_sums : (size : ℕ) (x : ℕ → Cx) → ((m : ℕ) → IsOfSize size (x m)) → (n : ℕ) → n < 64 → IsOfSize (budget_of 6 size) (minus (multiple (pos 1048576) (up_at 6 x n)) (plain_up x n))
near_up_sums size x h n lt =
    let same : plain_at 6 x n ≡ plain_up x n = same_sums _ _ (λ m. let one : 1 * (m * n) ≡ m * n = omega arith in ap (λ p. times (x m) (turn_at p)) one) 64 in
    rw same at (near_up 6 size x (omega arith) h n lt)
