-- A body that comes late: behind its cyclic prefix it is the body with each of its carriers turned back.
use Rattle.std.proofs.Common.{◌≡◌, ℕ, ◌+◌, ◌-◌, ◌*◌, ◌≤◌, refl, ap, sym, ◌∙◌, arith, ℤ, pos, ◌+ℤ◌, ◌-ℤ◌, ◌*ℤ◌, neg_ℤ}
use Rattle.std.proofs.Math.IntN.{+ℤ_comm}
use Rattle.integer_laws.proofs.Ring.{negated, ring, ◌⊕◌, ◌⊖◌, ◌⊗◌, ◌≗◌}
use Rattle.fixed_complex.specs.declared.Cx.{Cx}
use Rattle.fixed_complex.specs.Laws.{sum_below}
use Rattle.fixed_complex.specs.Pairs.{IsOfSize, conjugate, minus, multiple, plus, times}
use Rattle.fixed_complex.specs.Turns.{turn_at}
use Rattle.fixed_complex.proofs.Pairs.{same_parts}
use Rattle.fixed_complex.proofs.PairSizes.{size-conjugate, size-times}
use Rattle.fixed_complex.proofs.Sums.{minus_sums, multiple_sum, same_sums, size-sum, sum_halves, times_sum}
use Rattle.fixed_complex.proofs.Turning.{whole_turns}
use Rattle.fixed_complex.proofs.TurnLaws.{size-product_of_turns}
use Rattle.butterfly64.specs.PlainSums.{plain_down}
use Rattle.plain_waves.specs.Bodies.{plain_body}

swapped_sum : (a b : Cx) → plus a b ≡ plus b a
swapped_sum a b = same_parts _ _ (+ℤ_comm a.re b.re) (+ℤ_comm a.im b.im)

-- the body is the same 64 places further
turns_on : (d n : ℕ) → turn_at (d * (n + 64)) ≡ turn_at (d * n)
turns_on d n = let place : d * (n + 64) ≡ d * n + 64 * d = omega arith in ap turn_at place ∙ whole_turns (d * n) d

body_on : (x : ℕ → Cx) (n : ℕ) → plain_body x (n + 64) ≡ plain_body x n
body_on x n = same_sums _ _ (λ d. ap (times (x d)) (turns_on d n)) 64

module _ (x : ℕ → Cx) (c late : ℕ) (most : late ≤ 64) where
  -- what is summed, by the place in the late body, and by that in the body itself
  abbrev at_place : ℕ → Cx
  at_place n = times (plain_body x (n + 64 - late)) (conjugate (turn_at (c * n)))

  abbrev in_body : ℕ → Cx
  in_body m = times (plain_body x m) (conjugate (turn_at (c * (m + late))))

  abbrev rest : ℕ
  rest = 64 - late

  -- the end of the body comes first
  end_first : (n : ℕ) → at_place n ≡ in_body (n + rest)
  end_first n =
      let place : n + 64 - late ≡ n + rest = omega arith in
      let turn : n + rest + late ≡ n + 64 = omega arith in
      ap (λ m. times (plain_body x m) (conjugate (turn_at (c * n)))) place
      ∙ ap (λ t. times (plain_body x (n + rest)) (conjugate t)) (sym (turns_on c n) ∙ ap (λ m. turn_at (c * m)) (sym turn))

  -- and then its beginning
  beginning_last : (m : ℕ) → at_place (m + late) ≡ in_body m
  beginning_last m =
      let place : m + late + 64 - late ≡ m + 64 = omega arith in
      ap (λ w. times w (conjugate (turn_at (c * (m + late))))) (ap (plain_body x) place ∙ body_on x m)

  late_sum : plain_down (λ n. plain_body x (n + 64 - late)) c ≡ sum_below 64 in_body
  late_sum =
      let one : 64 ≡ late + rest = omega arith in
      let other : 64 ≡ rest + late = omega arith in
      ap (λ n. sum_below n at_place) one
      ∙ sum_halves late rest at_place
      ∙ ap (plus (sum_below late at_place)) (same_sums (λ m. at_place (m + late)) in_body beginning_last rest)
      ∙ ap (λ s. plus s (sum_below rest in_body)) (same_sums at_place (λ n. in_body (n + rest)) end_first late)
      ∙ swapped_sum (sum_below late (λ n. in_body (n + rest))) (sum_below rest in_body)
      ∙ sym (sum_halves rest late in_body)
      ∙ ap (λ n. sum_below n in_body) (sym other)

-- ---- the turn taken out
product_error : (y t s w : Cx) (c : ℤ) → minus (times (conjugate w) (times y (conjugate t))) (multiple c (times y (conjugate s))) ≡ times y (conjugate (minus (times t w) (multiple c s)))
unfolding times
product_error y t s w c = same_parts _ _ (re y.re y.im t.re t.im s.re s.im w.re w.im c) (im y.re y.im t.re t.im s.re s.im w.re w.im c)
  where
    re : (x y t u s v w z c : ℤ) → (w *ℤ (x *ℤ t -ℤ y *ℤ neg_ℤ u) -ℤ neg_ℤ z *ℤ (x *ℤ neg_ℤ u +ℤ y *ℤ t)) -ℤ c *ℤ (x *ℤ s -ℤ y *ℤ neg_ℤ v) ≡ x *ℤ ((t *ℤ w -ℤ u *ℤ z) -ℤ c *ℤ s) -ℤ y *ℤ neg_ℤ ((t *ℤ z +ℤ u *ℤ w) -ℤ c *ℤ v)
    re = ring 9 (λ x y t u s v w z c. (w ⊗ (x ⊗ t ⊖ y ⊗ negated u) ⊖ negated z ⊗ (x ⊗ negated u ⊕ y ⊗ t)) ⊖ c ⊗ (x ⊗ s ⊖ y ⊗ negated v) ≗ x ⊗ ((t ⊗ w ⊖ u ⊗ z) ⊖ c ⊗ s) ⊖ y ⊗ negated ((t ⊗ z ⊕ u ⊗ w) ⊖ c ⊗ v)) refl

    im : (x y t u s v w z c : ℤ) → (w *ℤ (x *ℤ neg_ℤ u +ℤ y *ℤ t) +ℤ neg_ℤ z *ℤ (x *ℤ t -ℤ y *ℤ neg_ℤ u)) -ℤ c *ℤ (x *ℤ neg_ℤ v +ℤ y *ℤ s) ≡ x *ℤ neg_ℤ ((t *ℤ z +ℤ u *ℤ w) -ℤ c *ℤ v) +ℤ y *ℤ ((t *ℤ w -ℤ u *ℤ z) -ℤ c *ℤ s)
    im = ring 9 (λ x y t u s v w z c. (w ⊗ (x ⊗ negated u ⊕ y ⊗ t) ⊕ negated z ⊗ (x ⊗ t ⊖ y ⊗ negated u)) ⊖ c ⊗ (x ⊗ negated v ⊕ y ⊗ s) ≗ x ⊗ negated ((t ⊗ z ⊕ u ⊗ w) ⊖ c ⊗ v) ⊕ y ⊗ ((t ⊗ w ⊖ u ⊗ z) ⊖ c ⊗ s)) refl

-- the plain sum of the body, turned back by the delay, is 2^20 times that of the late body, but for the table
pub near_late : (x : ℕ → Cx) (c late size : ℕ) → late ≤ 64 → ((n : ℕ) → IsOfSize size (plain_body x n))
    → IsOfSize (64 * (size * 1387885)) (minus (times (conjugate (turn_at (c * late))) (plain_down (plain_body x) c)) (multiple (pos 1048576) (plain_down (λ n. plain_body x (n + 64 - late)) c)))
near_late x c late size most sizes =
    let w = turn_at (c * late) in
    let f = λ (n : ℕ). times (plain_body x n) (conjugate (turn_at (c * n))) in
    let g = λ (n : ℕ). times (plain_body x n) (conjugate (turn_at (c * (n + late)))) in
    let e = λ (n : ℕ). minus (times (turn_at (c * n)) w) (multiple (pos 1048576) (turn_at (c * (n + late)))) in
    let small : (n : ℕ) → IsOfSize 1387885 (e n) = λ n. let place : c * (n + late) ≡ c * n + c * late = omega arith in rw place (size-product_of_turns (c * n) (c * late)) in
    let same : minus (times (conjugate w) (sum_below 64 f)) (multiple (pos 1048576) (sum_below 64 g)) ≡ sum_below 64 (λ n. times (plain_body x n) (conjugate (e n))) =
    ap (λ s. minus s (multiple (pos 1048576) (sum_below 64 g))) (times_sum (conjugate w) 64 f)
    ∙ ap (minus (sum_below 64 (λ n. times (conjugate w) (f n)))) (multiple_sum (pos 1048576) 64 g)
    ∙ minus_sums 64 (λ n. times (conjugate w) (f n)) (λ n. multiple (pos 1048576) (g n))
    ∙ same_sums _ _ (λ n. product_error (plain_body x n) (turn_at (c * n)) (turn_at (c * (n + late))) w (pos 1048576)) 64 in
    rw (late_sum x c late most, same)
    (size-sum 64 (size * 1387885) _ (λ n _. size-times size 1387885 (plain_body x n) (conjugate (e n)) (sizes n) (size-conjugate 1387885 (e n) (small n))))
