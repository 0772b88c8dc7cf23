-- The plain sum of a plain sum gives the carriers back.
use Rattle.std.proofs.Common.{◌≡◌, ◌≢◌, ℕ, zero, suc, ◌+◌, ◌*◌, ◌%◌, ◌^◌, ◌<◌, ◌≤◌, refl, ap, sym, subst, ◌∙◌, arith, inl, inr, true}
use Rattle.std.specs.Prelude.{ℤ, pos, ◌+ℤ◌, ◌-ℤ◌, ◌*ℤ◌}
use Rattle.std.proofs.lemmas.Bool.{cases_eq, leb-true, agree_below_at}
use Rattle.fixed_complex.specs.declared.Cx.{Cx}
use Rattle.fixed_complex.specs.Laws.{sum_below}
use Rattle.fixed_complex.specs.Pairs.{IsWithin, IsOfSize, zero_pair, plus, minus, multiple, conjugate, times}
use Rattle.fixed_complex.specs.Turns.{turn_at}
use Rattle.integer_laws.proofs.Ring.{ring, number, ◌⊕◌, ◌⊖◌, ◌⊗◌, ◌≗◌}
use Rattle.integer_laws.proofs.Sizes.{size_of_parts}
use Rattle.butterfly64.specs.PlainSums.{plain_up, plain_down}
use Rattle.fixed_complex.proofs.ByTable.{same_pairs, are_same}
use Rattle.fixed_complex.proofs.PairSizes.{within_wider, within-size, size-times}
use Rattle.fixed_complex.proofs.Turning.{turn_in_table, whole_turns}
use Rattle.fixed_complex.proofs.Pairs.{same_parts}
use Rattle.fixed_complex.proofs.Sums.{same_sums, times_sum, multiple_sum, minus_sums, plus_sums, times_zero, multiple_zero, size-sum, plus_zero, zero_plus}
use Rattle.fixed_complex.proofs.TurnLaws.{size-product_of_turns, sum-over_a_turn}

-- ---- identities of pairs
turned_term : (x t w : Cx) → times w (times x t) ≡ times x (times t w)
unfolding times
turned_term x t w = same_parts _ _ (re x.re x.im t.re t.im w.re w.im) (im x.re x.im t.re t.im w.re w.im)
  where
    re : (x y t u p q : ℤ) → p *ℤ (x *ℤ t -ℤ y *ℤ u) -ℤ q *ℤ (x *ℤ u +ℤ y *ℤ t) ≡ x *ℤ (t *ℤ p -ℤ u *ℤ q) -ℤ y *ℤ (t *ℤ q +ℤ u *ℤ p)
    re = ring 6 (λ x y t u p q. p ⊗ (x ⊗ t ⊖ y ⊗ u) ⊖ q ⊗ (x ⊗ u ⊕ y ⊗ t) ≗ x ⊗ (t ⊗ p ⊖ u ⊗ q) ⊖ y ⊗ (t ⊗ q ⊕ u ⊗ p)) refl

    im : (x y t u p q : ℤ) → p *ℤ (x *ℤ u +ℤ y *ℤ t) +ℤ q *ℤ (x *ℤ t -ℤ y *ℤ u) ≡ x *ℤ (t *ℤ q +ℤ u *ℤ p) +ℤ y *ℤ (t *ℤ p -ℤ u *ℤ q)
    im = ring 6 (λ x y t u p q. p ⊗ (x ⊗ u ⊕ y ⊗ t) ⊕ q ⊗ (x ⊗ t ⊖ y ⊗ u) ≗ x ⊗ (t ⊗ q ⊕ u ⊗ p) ⊕ y ⊗ (t ⊗ p ⊖ u ⊗ q)) refl

swapped : (a b : Cx) → times a b ≡ times b a
unfolding times
swapped a b = same_parts _ _ (re a.re a.im b.re b.im) (im a.re a.im b.re b.im)
  where
    re : (a b c d : ℤ) → a *ℤ c -ℤ b *ℤ d ≡ c *ℤ a -ℤ d *ℤ b
    re = ring 4 (λ a b c d. a ⊗ c ⊖ b ⊗ d ≗ c ⊗ a ⊖ d ⊗ b) refl

    im : (a b c d : ℤ) → a *ℤ d +ℤ b *ℤ c ≡ c *ℤ b +ℤ d *ℤ a
    im = ring 4 (λ a b c d. a ⊗ d ⊕ b ⊗ c ≗ c ⊗ b ⊕ d ⊗ a) refl

times_minus : (x a b : Cx) → minus (times x a) (times x b) ≡ times x (minus a b)
unfolding times
times_minus x a b = same_parts _ _ (re x.re x.im a.re a.im b.re b.im) (im x.re x.im a.re a.im b.re b.im)
  where
    re : (x y a b c d : ℤ) → (x *ℤ a -ℤ y *ℤ b) -ℤ (x *ℤ c -ℤ y *ℤ d) ≡ x *ℤ (a -ℤ c) -ℤ y *ℤ (b -ℤ d)
    re = ring 6 (λ x y a b c d. (x ⊗ a ⊖ y ⊗ b) ⊖ (x ⊗ c ⊖ y ⊗ d) ≗ x ⊗ (a ⊖ c) ⊖ y ⊗ (b ⊖ d)) refl

    im : (x y a b c d : ℤ) → (x *ℤ b +ℤ y *ℤ a) -ℤ (x *ℤ d +ℤ y *ℤ c) ≡ x *ℤ (b -ℤ d) +ℤ y *ℤ (a -ℤ c)
    im = ring 6 (λ x y a b c d. (x ⊗ b ⊕ y ⊗ a) ⊖ (x ⊗ d ⊕ y ⊗ c) ≗ x ⊗ (b ⊖ d) ⊕ y ⊗ (a ⊖ c)) refl

times_number : (x : Cx) (c : ℤ) → times x (record { re = c; im = pos 0 }) ≡ multiple c x
unfolding times
times_number x c = same_parts _ _ (re x.re x.im c) (im x.re x.im c)
  where
    re : (x y c : ℤ) → x *ℤ c -ℤ y *ℤ pos 0 ≡ c *ℤ x
    re = ring 3 (λ x y c. x ⊗ c ⊖ y ⊗ number (pos 0) ≗ c ⊗ x) refl

    im : (x y c : ℤ) → x *ℤ pos 0 +ℤ y *ℤ c ≡ c *ℤ y
    im = ring 3 (λ x y c. x ⊗ number (pos 0) ⊕ y ⊗ c ≗ c ⊗ y) refl

-- ---- sums with one term, and sums of sums
all_zero : (n : ℕ) (f : ℕ → Cx) → ((d : ℕ) → d < n → f d ≡ zero_pair) → sum_below n f ≡ zero_pair
unfolding sum_below
all_zero zero f h = refl
all_zero (suc n) f h = rw (all_zero n f (λ d lt. h d (omega arith)), h n (omega arith)) refl

only_one : (n c : ℕ) (f : ℕ → Cx) → c < n → ((d : ℕ) → d < n → d ≢ c → f d ≡ zero_pair) → sum_below n f ≡ f c
unfolding sum_below
only_one zero c f lt h = absurd (omega arith)
only_one (suc n) c f lt h =
    elim (cases_eq c n) [
      | inl last ↦ rw (last, all_zero n f (λ d d_lt. h d (omega arith) (omega arith))) (zero_plus (f n))
      | inr earlier ↦ rw (h n (omega arith) (omega arith)) (plus_zero (sum_below n f) ∙ only_one n c f (omega arith) (λ d d_lt ne. h d (omega arith) ne))
    ]

sums_swapped : (n k : ℕ) (g : ℕ → ℕ → Cx) → sum_below n (λ i. sum_below k (λ j. g i j)) ≡ sum_below k (λ j. sum_below n (λ i. g i j))
unfolding sum_below
sums_swapped zero k g = sym (all_zero k (λ j. zero_pair) (λ d lt. refl))
sums_swapped (suc n) k g =
    ap (λ s. plus s (sum_below k (λ j. g n j))) (sums_swapped n k g)
    ∙ plus_sums k (λ j. sum_below n (λ i. g i j)) (λ j. g n j)

-- ---- turns
-- a conjugate turn is a turn 63 times as far
turn_back : (m : ℕ) → conjugate (turn_at m) ≡ turn_at (63 * m)
unfolding turn_at
turn_back m =
    let place : (63 * m) % 64 ≡ (63 * (m % 64)) % 64 = omega arith in
    ap conjugate (turn_in_table m)
    ∙ are_same _ _ (agree_below_at (λ k. same_pairs (conjugate (turn_at k)) (turn_at ((63 * k) % 64))) (λ _. true) 64 (m % 64) refl (omega arith))
    ∙ ap turn_at (sym place) ∙ sym (turn_in_table (63 * m))

sum_of_ones : sum_below 64 (λ n. turn_at 0) ≡ record { re = pos 67108864; im = pos 0 }
unfolding sum_below turn_at
sum_of_ones = refl

-- the turns of carrier d, turned back by those of c, and 2^20 times their joint turns
module _ (c : ℕ) (c_below : c < 64) where
  abbrev back : ℕ → Cx
  back d = sum_below 64 (λ n. times (turn_at (d * n)) (conjugate (turn_at (c * n))))

  abbrev joint : ℕ → Cx
  joint d = sum_below 64 (λ n. multiple (pos 1048576) (turn_at ((d + 63 * c) * n)))

  near_joint : (d : ℕ) → IsOfSize (64 * 1387885) (minus (back d) (joint d))
  near_joint d =
      rw (minus_sums 64 (λ n. times (turn_at (d * n)) (conjugate (turn_at (c * n)))) (λ n. multiple (pos 1048576) (turn_at ((d + 63 * c) * n))))
      (size-sum 64 1387885 _ (λ n _.
      let place : (d + 63 * c) * n ≡ d * n + 63 * (c * n) = omega arith in
      rw (turn_back (c * n), place) (size-product_of_turns (d * n) (63 * (c * n)))))

  joint_other : (d : ℕ) → d < 64 → d ≢ c → joint d ≡ zero_pair
  joint_other d d_below ne =
      sym (multiple_sum (pos 1048576) 64 (λ n. turn_at ((d + 63 * c) * n)))
      ∙ ap (multiple (pos 1048576)) (sum-over_a_turn (d + 63 * c) (omega arith))
      ∙ multiple_zero (pos 1048576)

  joint_same : joint c ≡ record { re = pos 70368744177664; im = pos 0 }
  joint_same =
      sym (multiple_sum (pos 1048576) 64 (λ n. turn_at ((c + 63 * c) * n)))
      ∙ ap (multiple (pos 1048576)) (same_sums _ (λ n. turn_at 0) (λ n. let place : (c + 63 * c) * n ≡ 0 + 64 * (c * n) = omega arith in ap turn_at place ∙ whole_turns 0 (c * n)) 64 ∙ sum_of_ones)

  -- the plain sum of a plain sum, by carriers
  by_carrier : (x : ℕ → Cx) → plain_down (plain_up x) c ≡ sum_below 64 (λ d. times (x d) (back d))
  by_carrier x =
      same_sums _ (λ n. sum_below 64 (λ d. times (x d) (times (turn_at (d * n)) (conjugate (turn_at (c * n)))))) (λ n.
      swapped (plain_up x n) (conjugate (turn_at (c * n)))
      ∙ times_sum (conjugate (turn_at (c * n))) 64 (λ d. times (x d) (turn_at (d * n)))
      ∙ same_sums _ _ (λ d. turned_term (x d) (turn_at (d * n)) (conjugate (turn_at (c * n)))) 64) 64
      ∙ sums_swapped 64 64 (λ n d. times (x d) (times (turn_at (d * n)) (conjugate (turn_at (c * n)))))
      ∙ same_sums _ _ (λ d. sym (times_sum (x d) 64 (λ n. times (turn_at (d * n)) (conjugate (turn_at (c * n)))))) 64

  of_one_carrier : (x : ℕ → Cx) → sum_below 64 (λ d. times (x d) (joint d)) ≡ multiple (pos 70368744177664) (x c)
  of_one_carrier x =
      only_one 64 c (λ d. times (x d) (joint d)) c_below (λ d d_below ne. ap (times (x d)) (joint_other d d_below ne) ∙ times_zero (x d))
      ∙ ap (times (x c)) joint_same
      ∙ times_number (x c) (pos 70368744177664)

  pub near_carrier : (x : ℕ → Cx) → ((d : ℕ) → IsWithin 954 (x d)) → IsWithin (9 * 2 ^ 41) (minus (plain_down (plain_up x) c) (multiple (pos 70368744177664) (x c)))
  near_carrier x within =
      let size = λ (d : ℕ). size-times 1350 (64 * 1387885) (x d) (minus (back d) (joint d)) (record { size = size_of_parts (x d).re (x d).im 954 954 1350 (within d).re (within d).im (omega arith) }) (near_joint d) in
      let enough : 64 * (1350 * (64 * 1387885)) ≤ 9 * 2 ^ 41 = leb-true (64 * (1350 * (64 * 1387885))) (9 * 2 ^ 41) refl in
      let same : minus (plain_down (plain_up x) c) (multiple (pos 70368744177664) (x c)) ≡ sum_below 64 (λ d. times (x d) (minus (back d) (joint d))) =
      ap (λ s. minus s (multiple (pos 70368744177664) (x c))) (by_carrier x)
      ∙ ap (minus (sum_below 64 (λ d. times (x d) (back d)))) (sym (of_one_carrier x))
      ∙ minus_sums 64 (λ d. times (x d) (back d)) (λ d. times (x d) (joint d))
      ∙ same_sums _ _ (λ d. times_minus (x d) (back d) (joint d)) 64 in
      let all = within_wider (64 * (1350 * (64 * 1387885))) (9 * 2 ^ 41) _ enough (within-size (64 * (1350 * (64 * 1387885))) _ (size-sum 64 (1350 * (64 * 1387885)) _ (λ d _. size d))) in
      let P : Cx → Type 0 = IsWithin (9 * 2 ^ 41) in
      subst P (sym same) all
