-- How near the staged sums `down` are to the plain ones, part by part.
use Rattle.std.proofs.Common.{◌≡◌, ℕ, zero, suc, ◌+◌, ◌-◌, ◌*◌, ◌/◌, ◌%◌, ◌^◌, ◌<◌, ◌≤◌, refl, ap, ◌∙◌, arith, inl, inr}
use Rattle.std.specs.Prelude.{ℤ, pos, ◌+ℤ◌, ◌-ℤ◌, ◌*ℤ◌, neg_ℤ}
use Rattle.std.proofs.lemmas.Bool.{cases_eq}
use Rattle.std.proofs.Math.Nat.{pow-suc}
use Rattle.fixed_complex.specs.declared.Cx.{Cx}
use Rattle.fixed_complex.specs.Laws.{sum_below}
use Rattle.fixed_complex.specs.Pairs.{IsOfSize, zero_pair, plus, minus, multiple, conjugate, times}
use Rattle.fixed_complex.specs.Turns.{turn_at}
use Rattle.integer_laws.proofs.Ring.{ring, number, negated, ◌⊕◌, ◌⊖◌, ◌⊗◌, ◌≗◌}
use Rattle.integer_laws.proofs.Sizes.{size_of_unscaled}
use Rattle.integer_laws.proofs.Order.{pos-le}
use Rattle.butterfly64.specs.Budgets.{grown_size, down_budget_of}
use Rattle.butterfly64.specs.PlainSums.{plain_down}
use Rattle.butterfly64.specs.StagedSums.{stage_turn, half_sums, turned_differences, down_at}
use Rattle.fixed_complex.proofs.PairSizes.{wider, size-plus, size-minus, size-conjugate, size-times}
use Rattle.fixed_complex.proofs.TurnLaws.{turn-size, turn-half, size-product_of_turns}
use Rattle.butterfly64.proofs.StagedSizes.{size-half_sums, size-turned_differences}
use Rattle.butterfly64.proofs.Halves.{down_at-even, down_at-odd}
use Rattle.fixed_complex.proofs.Pairs.{same_parts}
use Rattle.fixed_complex.proofs.Sums.{same_sums, multiple_sum, minus_sums, plus_sums, sum_halves, size-sum}
use Rattle.butterfly64.proofs.UpBudget.{one_pair, step_is, double_step, half_turn, rounding_size}
use Rattle.fixed_complex.proofs.Turning.{whole_turns}

-- the plain sum over 2^k places
abbrev pub plain_back_at : ℕ → (ℕ → Cx) → ℕ → Cx
plain_back_at k x n = sum_below (2 ^ k) (λ m. times (x m) (conjugate (turn_at (2 ^ (6 - k) * (m * n)))))

-- ---- identities of pairs
-- two size-product_of_turns with one turn, and with a turn and its opposite
same_turns : (a b t : Cx) → plus (times a (conjugate t)) (times b (conjugate t)) ≡ times (plus a b) (conjugate t)
unfolding times
same_turns a b t = same_parts _ _ (re a.re a.im b.re b.im t.re t.im) (im a.re a.im b.re b.im t.re t.im)
  where
    re : (a b c d t u : ℤ) → (a *ℤ t -ℤ b *ℤ neg_ℤ u) +ℤ (c *ℤ t -ℤ d *ℤ neg_ℤ u) ≡ (a +ℤ c) *ℤ t -ℤ (b +ℤ d) *ℤ neg_ℤ u
    re = ring 6 (λ a b c d t u. (a ⊗ t ⊖ b ⊗ negated u) ⊕ (c ⊗ t ⊖ d ⊗ negated u) ≗ (a ⊕ c) ⊗ t ⊖ (b ⊕ d) ⊗ negated u) refl

    im : (a b c d t u : ℤ) → (a *ℤ neg_ℤ u +ℤ b *ℤ t) +ℤ (c *ℤ neg_ℤ u +ℤ d *ℤ t) ≡ (a +ℤ c) *ℤ neg_ℤ u +ℤ (b +ℤ d) *ℤ t
    im = ring 6 (λ a b c d t u. (a ⊗ negated u ⊕ b ⊗ t) ⊕ (c ⊗ negated u ⊕ d ⊗ t) ≗ (a ⊕ c) ⊗ negated u ⊕ (b ⊕ d) ⊗ t) refl

opposite_turns : (a b t : Cx) → plus (times a (conjugate t)) (times b (conjugate (minus zero_pair t))) ≡ times (minus a b) (conjugate t)
unfolding times
opposite_turns a b t = same_parts _ _ (re a.re a.im b.re b.im t.re t.im) (im a.re a.im b.re b.im t.re t.im)
  where
    re : (a b c d t u : ℤ) → (a *ℤ t -ℤ b *ℤ neg_ℤ u) +ℤ (c *ℤ (pos 0 -ℤ t) -ℤ d *ℤ neg_ℤ (pos 0 -ℤ u)) ≡ (a -ℤ c) *ℤ t -ℤ (b -ℤ d) *ℤ neg_ℤ u
    re = ring 6 (λ a b c d t u. (a ⊗ t ⊖ b ⊗ negated u) ⊕ (c ⊗ (number (pos 0) ⊖ t) ⊖ d ⊗ negated (number (pos 0) ⊖ u)) ≗ (a ⊖ c) ⊗ t ⊖ (b ⊖ d) ⊗ negated u) refl

    im : (a b c d t u : ℤ) → (a *ℤ neg_ℤ u +ℤ b *ℤ t) +ℤ (c *ℤ neg_ℤ (pos 0 -ℤ u) +ℤ d *ℤ (pos 0 -ℤ t)) ≡ (a -ℤ c) *ℤ neg_ℤ u +ℤ (b -ℤ d) *ℤ t
    im = ring 6 (λ a b c d t u. (a ⊗ negated u ⊕ b ⊗ t) ⊕ (c ⊗ negated (number (pos 0) ⊖ u) ⊕ d ⊗ (number (pos 0) ⊖ t)) ≗ (a ⊖ c) ⊗ negated u ⊕ (b ⊖ d) ⊗ t) refl

-- the product law for conjugates
conjugate_error : (c : ℤ) (a b t : Cx) → minus (times (conjugate a) (conjugate b)) (multiple c (conjugate t)) ≡ conjugate (minus (times a b) (multiple c t))
unfolding times
conjugate_error c a b t = same_parts _ _ (re c a.re a.im b.re b.im t.re) (im c a.re a.im b.re b.im t.im)
  where
    re : (e a b c d t : ℤ) → (a *ℤ c -ℤ neg_ℤ b *ℤ neg_ℤ d) -ℤ e *ℤ t ≡ (a *ℤ c -ℤ b *ℤ d) -ℤ e *ℤ t
    re = ring 6 (λ e a b c d t. (a ⊗ c ⊖ negated b ⊗ negated d) ⊖ e ⊗ t ≗ (a ⊗ c ⊖ b ⊗ d) ⊖ e ⊗ t) refl

    im : (e a b c d t : ℤ) → (a *ℤ neg_ℤ d +ℤ neg_ℤ b *ℤ c) -ℤ e *ℤ neg_ℤ t ≡ neg_ℤ ((a *ℤ d +ℤ b *ℤ c) -ℤ e *ℤ t)
    im = ring 6 (λ e a b c d t. (a ⊗ negated d ⊕ negated b ⊗ c) ⊖ e ⊗ negated t ≗ negated ((a ⊗ d ⊕ b ⊗ c) ⊖ e ⊗ t)) refl

-- the error of a rounded difference in a sum
term_error : (e : ℤ) (y d a b t : Cx) → multiple e (minus (times y a) (times d t)) ≡ plus (times (minus (multiple e y) (times b d)) a) (times d (minus (times b a) (multiple e t)))
unfolding times
term_error e y d a b t = same_parts _ _ (re e y.re y.im d.re d.im a.re a.im b.re b.im t.re t.im) (im e y.re y.im d.re d.im a.re a.im b.re b.im t.re t.im)
  where
    re : (e y z d f a g b h t u : ℤ) → e *ℤ ((y *ℤ a -ℤ z *ℤ g) -ℤ (d *ℤ t -ℤ f *ℤ u))
        ≡ ((e *ℤ y -ℤ (b *ℤ d -ℤ h *ℤ f)) *ℤ a -ℤ (e *ℤ z -ℤ (b *ℤ f +ℤ h *ℤ d)) *ℤ g) +ℤ (d *ℤ ((b *ℤ a -ℤ h *ℤ g) -ℤ e *ℤ t) -ℤ f *ℤ ((b *ℤ g +ℤ h *ℤ a) -ℤ e *ℤ u))
    re = ring 11 (λ e y z d f a g b h t u. e ⊗ ((y ⊗ a ⊖ z ⊗ g) ⊖ (d ⊗ t ⊖ f ⊗ u))
        ≗ ((e ⊗ y ⊖ (b ⊗ d ⊖ h ⊗ f)) ⊗ a ⊖ (e ⊗ z ⊖ (b ⊗ f ⊕ h ⊗ d)) ⊗ g) ⊕ (d ⊗ ((b ⊗ a ⊖ h ⊗ g) ⊖ e ⊗ t) ⊖ f ⊗ ((b ⊗ g ⊕ h ⊗ a) ⊖ e ⊗ u))) refl

    im : (e y z d f a g b h t u : ℤ) → e *ℤ ((y *ℤ g +ℤ z *ℤ a) -ℤ (d *ℤ u +ℤ f *ℤ t))
        ≡ ((e *ℤ y -ℤ (b *ℤ d -ℤ h *ℤ f)) *ℤ g +ℤ (e *ℤ z -ℤ (b *ℤ f +ℤ h *ℤ d)) *ℤ a) +ℤ (d *ℤ ((b *ℤ g +ℤ h *ℤ a) -ℤ e *ℤ u) +ℤ f *ℤ ((b *ℤ a -ℤ h *ℤ g) -ℤ e *ℤ t))
    im = ring 11 (λ e y z d f a g b h t u. e ⊗ ((y ⊗ g ⊕ z ⊗ a) ⊖ (d ⊗ u ⊕ f ⊗ t))
        ≗ ((e ⊗ y ⊖ (b ⊗ d ⊖ h ⊗ f)) ⊗ g ⊕ (e ⊗ z ⊖ (b ⊗ f ⊕ h ⊗ d)) ⊗ a) ⊕ (d ⊗ ((b ⊗ g ⊕ h ⊗ a) ⊖ e ⊗ u) ⊕ f ⊗ ((b ⊗ a ⊖ h ⊗ g) ⊖ e ⊗ t))) refl

-- a difference by way of a third pair
by_way : (a b c : Cx) → minus a c ≡ plus (minus a b) (minus b c)
by_way a b c = same_parts _ _ (law a.re b.re c.re) (law a.im b.im c.im)
  where
    law : (a b c : ℤ) → a -ℤ c ≡ (a -ℤ b) +ℤ (b -ℤ c)
    law = ring 3 (λ a b c. a ⊖ c ≗ (a ⊖ b) ⊕ (b ⊖ c)) refl

-- ---- places of turns
even_first : (h q m i : ℕ) → q ≡ 2 * h → h * (m * (2 * i)) ≡ q * (m * i)
even_first h q m i e = rw e (omega arith)

even_last : (h q m p i : ℕ) → q ≡ 2 * h → h * p ≡ 32 → h * ((m + p) * (2 * i)) ≡ q * (m * i) + 64 * i
even_last h q m p i e f = rw e (omega (arith, ap (λ z. z * i) f))

odd_first : (h q m i : ℕ) → q ≡ 2 * h → h * (m * (2 * i + 1)) ≡ h * m + q * (m * i)
odd_first h q m i e = rw e (omega arith)

odd_last : (h q m p i : ℕ) → q ≡ 2 * h → h * p ≡ 32 → h * ((m + p) * (2 * i + 1)) ≡ h * m + q * (m * i) + 64 * i + 32
odd_last h q m p i e f = rw e (omega (arith, f, ap (λ z. z * i) f))

halves : (k : ℕ) (x : ℕ → Cx) (n : ℕ) → k < 6 → plain_back_at (suc k) x n ≡ plus (sum_below (2 ^ k) (λ m. times (x m) (conjugate (turn_at (2 ^ (5 - k) * (m * n)))))) (sum_below (2 ^ k) (λ m. times (x (m + 2 ^ k)) (conjugate (turn_at (2 ^ (5 - k) * ((m + 2 ^ k) * n))))))
halves k x n h =
    let places : 2 ^ suc k ≡ 2 ^ k + 2 ^ k = omega (arith, pow-suc 2 k) in
    rw (places, step_is k h) (sum_halves (2 ^ k) (2 ^ k) (λ m. times (x m) (conjugate (turn_at (2 ^ (5 - k) * (m * n))))))

-- one pair is its own sum
near_one : (x : ℕ → Cx) (n : ℕ) → IsOfSize 0 (minus (multiple (pos 1048576) (down_at 0 x n)) (plain_back_at 0 x n))
unfolding sum_below turn_at down_at
near_one x n =
    let place : 0 * n ≡ 0 = omega arith in
    rw (place, one_pair (x 0)) (record { size = pos-le 0 0 (omega arith) })

-- ---- from the laws of turns
-- at an even place, the plain sum of the half sums
plain_even : (k : ℕ) (x : ℕ → Cx) (i : ℕ) → k < 6 → plain_back_at (suc k) x (2 * i) ≡ plain_back_at k (half_sums k x) i
plain_even k x i h =
    let s = 2 ^ (5 - k) in
    let q = 2 ^ (6 - k) in
    halves k x (2 * i) h
    ∙ plus_sums (2 ^ k) (λ m. times (x m) (conjugate (turn_at (s * (m * (2 * i)))))) (λ m. times (x (m + 2 ^ k)) (conjugate (turn_at (s * ((m + 2 ^ k) * (2 * i))))))
    ∙ same_sums _ _ (λ m.
    let first = ap turn_at (even_first s q m i (double_step k h)) in
    let last = ap turn_at (even_last s q m (2 ^ k) i (double_step k h) (half_turn k h)) ∙ whole_turns (q * (m * i)) i in
    ap (λ t. plus (times (x m) (conjugate t)) (times (x (m + 2 ^ k)) (conjugate (turn_at (s * ((m + 2 ^ k) * (2 * i))))))) first
    ∙ ap (λ t. plus (times (x m) (conjugate (turn_at (q * (m * i))))) (times (x (m + 2 ^ k)) (conjugate t))) last
    ∙ same_turns (x m) (x (m + 2 ^ k)) (turn_at (q * (m * i)))) (2 ^ k)

-- at an odd place, that of the differences, each turned once more
plain_odd : (k : ℕ) (x : ℕ → Cx) (i : ℕ) → k < 6 → plain_back_at (suc k) x (2 * i + 1) ≡ sum_below (2 ^ k) (λ m. times (minus (x m) (x (m + 2 ^ k))) (conjugate (turn_at (2 ^ (5 - k) * m + 2 ^ (6 - k) * (m * i)))))
plain_odd k x i h =
    let s = 2 ^ (5 - k) in
    let q = 2 ^ (6 - k) in
    halves k x (2 * i + 1) h
    ∙ plus_sums (2 ^ k) (λ m. times (x m) (conjugate (turn_at (s * (m * (2 * i + 1)))))) (λ m. times (x (m + 2 ^ k)) (conjugate (turn_at (s * ((m + 2 ^ k) * (2 * i + 1))))))
    ∙ same_sums _ _ (λ m.
    let t = turn_at (s * m + q * (m * i)) in
    let first = ap turn_at (odd_first s q m i (double_step k h)) in
    let last = ap turn_at (odd_last s q m (2 ^ k) i (double_step k h) (half_turn k h)) ∙ turn-half (s * m + q * (m * i) + 64 * i) ∙ ap (minus zero_pair) (whole_turns (s * m + q * (m * i)) i) in
    ap (λ t. plus (times (x m) (conjugate t)) (times (x (m + 2 ^ k)) (conjugate (turn_at (s * ((m + 2 ^ k) * (2 * i + 1))))))) first
    ∙ ap (λ u. plus (times (x m) (conjugate t)) (times (x (m + 2 ^ k)) (conjugate u))) last
    ∙ opposite_turns (x m) (x (m + 2 ^ k)) t) (2 ^ k)

-- how far the plain sum of the rounded differences is from it
stage_size : (k size : ℕ) (x : ℕ → Cx) (i : ℕ) → k < 6 → ((m : ℕ) → IsOfSize size (x m)) → IsOfSize (2 ^ k * (741456 * 1048577 + 2 * size * 1387885) / 1048576 + 1) (minus (plain_back_at k (turned_differences k x) i) (plain_back_at (suc k) x (2 * i + 1)))
stage_size k size x i k_below h =
    let y = turned_differences k x in
    let d = λ (m : ℕ). minus (x m) (x (m + 2 ^ k)) in
    let a = λ (m : ℕ). conjugate (turn_at (2 ^ (6 - k) * (m * i))) in
    let b = λ (m : ℕ). conjugate (stage_turn k m) in
    let t = λ (m : ℕ). conjugate (turn_at (2 ^ (5 - k) * m + 2 ^ (6 - k) * (m * i))) in
    let v = 2 ^ k * (741456 * 1048577 + 2 * size * 1387885) in
    let e = minus (plain_back_at k y i) (plain_back_at (suc k) x (2 * i + 1)) in
    let same : multiple (pos 1048576) e ≡ sum_below (2 ^ k) (λ m. plus (times (minus (multiple (pos 1048576) (y m)) (times (b m) (d m))) (a m)) (times (d m) (minus (times (b m) (a m)) (multiple (pos 1048576) (t m))))) =
    ap (λ s. multiple (pos 1048576) (minus (plain_back_at k y i) s)) (plain_odd k x i k_below)
    ∙ ap (multiple (pos 1048576)) (minus_sums (2 ^ k) (λ m. times (y m) (a m)) (λ m. times (d m) (t m)))
    ∙ multiple_sum (pos 1048576) (2 ^ k) (λ m. minus (times (y m) (a m)) (times (d m) (t m)))
    ∙ same_sums _ _ (λ m. term_error (pos 1048576) (y m) (d m) (a m) (b m) (t m)) (2 ^ k) in
    let term = λ (m : ℕ). size-plus (741456 * 1048577) (2 * size * 1387885) (times (minus (multiple (pos 1048576) (y m)) (times (b m) (d m))) (a m)) (times (d m) (minus (times (b m) (a m)) (multiple (pos 1048576) (t m))))
    (size-times 741456 1048577 _ (a m) (rounding_size (b m) (d m)) (size-conjugate 1048577 _ (turn-size (2 ^ (6 - k) * (m * i)))))
    (size-times (2 * size) 1387885 (d m) _ (wider (size + size) (2 * size) _ (omega arith) (size-minus size size (x m) (x (m + 2 ^ k)) (h m) (h (m + 2 ^ k))))
    (rw (conjugate_error (pos 1048576) (stage_turn k m) (turn_at (2 ^ (6 - k) * (m * i))) (turn_at (2 ^ (5 - k) * m + 2 ^ (6 - k) * (m * i)))) (size-conjugate 1387885 _ (size-product_of_turns (2 ^ (5 - k) * m) (2 ^ (6 - k) * (m * i)))))) in
    let sum : IsOfSize v (multiple (pos 1048576) e) = rw same (size-sum (2 ^ k) (741456 * 1048577 + 2 * size * 1387885) _ (λ m _. term m)) in
    record { size = size_of_unscaled 1048576 e.re e.im (v / 1048576 + 1) (omega arith) (wider v (1048576 * (v / 1048576 + 1)) (multiple (pos 1048576) e) (omega arith) sum).size }

-- part by part
pub near_down : (k size : ℕ) (x : ℕ → Cx) → k ≤ 6 → ((m : ℕ) → IsOfSize size (x m)) → (n : ℕ) → n < 2 ^ k → IsOfSize (down_budget_of k size) (minus (multiple (pos 1048576) (down_at k x n)) (plain_back_at k x n))
near_down zero size x k_below h n lt = near_one x n
near_down (suc k) size x k_below h n lt =
    let below : k < 6 = omega arith in
    let i = n / 2 in
    let i_lt : i < 2 ^ k = omega (arith, pow-suc 2 k) in
    let b = down_budget_of k (grown_size size) in
    let v = 2 ^ k * (741456 * 1048577 + 2 * size * 1387885) / 1048576 + 1 in
    elim (cases_eq (n % 2) 0) [
      | inl even ↦
          let place : n ≡ 2 * i = omega arith in
          rw (place, down_at-even k x i, plain_even k x i below)
          (wider b (b + v) _ (omega arith) (near_down k (grown_size size) (half_sums k x) (omega arith) (size-half_sums k size x h) i i_lt))
      | inr odd ↦
          let place : n ≡ 2 * i + 1 = omega arith in
          rw (place, down_at-odd k x i, by_way (multiple (pos 1048576) (down_at k (turned_differences k x) i)) (plain_back_at k (turned_differences k x) i) (plain_back_at (suc k) x (2 * i + 1)))
          (size-plus b v _ _ (near_down k (grown_size size) (turned_differences k x) (omega arith) (size-turned_differences k size x h) i i_lt) (stage_size k size x i below h))
    ]

-- all 64
pub near_down_sums : (size : ℕ) (x : ℕ → Cx) → ((m : ℕ) → IsOfSize size (x m)) → (n : ℕ) → n < 64 → IsOfSize (down_budget_of 6 size) (minus (multiple (pos 1048576) (down_at 6 x n)) (plain_down x n))
near_down_sums size x h n lt =
    let same : plain_back_at 6 x n ≡ plain_down x n = same_sums _ _ (λ m. let one : 1 * (m * n) ≡ n * m = omega arith in ap (λ p. times (x m) (conjugate (turn_at p))) one) 64 in
    rw same at (near_down 6 size x (omega arith) h n lt)
