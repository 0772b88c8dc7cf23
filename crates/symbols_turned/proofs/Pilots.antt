-- The turn of a symbol from its pilots, as pairs: what each brings, their sum, and the rounded quotient.
use Rattle.std.proofs.Common.{◌≡◌, ℕ, ◌+◌, ◌*◌, ◌<◌, ◌≤◌, refl, subst, arith, ℤ, pos, ◌+ℤ◌, ◌-ℤ◌, ◌*ℤ◌, neg_ℤ, unsigned_abs}
use Rattle.std.proofs.lemmas.Int.{ints}
use Rattle.integer_laws.specs.Floor.{floor_div}
use Rattle.integer_laws.proofs.FloorDivision.{rounding_within}
use Rattle.integer_laws.proofs.Order.{pos-le, unsigned_abs-le}
use Rattle.integer_laws.proofs.Ring.{equal_by_multiple, ring, negated, number, ◌⊕◌, ◌⊖◌, ◌⊗◌, ◌≗◌}
use Rattle.integer_laws.proofs.Sizes.{size_of_scaled, size_of_unscaled, sum_of_squares_is}
use Rattle.fixed_complex.specs.declared.Cx.{Cx}
use Rattle.fixed_complex.specs.Pairs.{IsOfSize, conjugate, minus, multiple, plus, times, zero_pair, squared_size}
use Rattle.fixed_complex.proofs.Pairs.{same_parts}
use Rattle.fixed_complex.proofs.PairSizes.{size-conjugate, size-minus, size-multiple, size-plus, size-times, size-within, wider}
use Rattle.decided_axis.proofs.Channels.{signed}

-- the estimate of a channel that does nothing
abbrev pub full : Cx
full = record { re = pos 41472; im = pos 0 }

-- ---- one pilot: twice the scale times what it brings back, less the square of the channel's size times the turn
re_law : (s σ y z h k w f : ℤ) → (s +ℤ s) *ℤ (σ *ℤ (y *ℤ h -ℤ z *ℤ neg_ℤ k)) -ℤ (h *ℤ h +ℤ k *ℤ k) *ℤ w -ℤ (((σ +ℤ σ) *ℤ (s *ℤ y -ℤ pos 32 *ℤ (pos 648 *ℤ σ *ℤ w -ℤ pos 0 *ℤ f)) -ℤ (w *ℤ (h -ℤ pos 41472) -ℤ f *ℤ (k -ℤ pos 0))) *ℤ h -ℤ ((σ +ℤ σ) *ℤ (s *ℤ z -ℤ pos 32 *ℤ (pos 648 *ℤ σ *ℤ f +ℤ pos 0 *ℤ w)) -ℤ (w *ℤ (k -ℤ pos 0) +ℤ f *ℤ (h -ℤ pos 41472))) *ℤ neg_ℤ k)
    ≡ pos 41472 *ℤ (w *ℤ h +ℤ f *ℤ k) *ℤ (σ *ℤ σ -ℤ pos 1)
re_law = ring 8 (λ s σ y z h k w f. (s ⊕ s) ⊗ (σ ⊗ (y ⊗ h ⊖ z ⊗ negated k)) ⊖ (h ⊗ h ⊕ k ⊗ k) ⊗ w ⊖ (((σ ⊕ σ) ⊗ (s ⊗ y ⊖ number (pos 32) ⊗ (number (pos 648) ⊗ σ ⊗ w ⊖ number (pos 0) ⊗ f)) ⊖ (w ⊗ (h ⊖ number (pos 41472)) ⊖ f ⊗ (k ⊖ number (pos 0)))) ⊗ h ⊖ ((σ ⊕ σ) ⊗ (s ⊗ z ⊖ number (pos 32) ⊗ (number (pos 648) ⊗ σ ⊗ f ⊕ number (pos 0) ⊗ w)) ⊖ (w ⊗ (k ⊖ number (pos 0)) ⊕ f ⊗ (h ⊖ number (pos 41472)))) ⊗ negated k)
    ≗ number (pos 41472) ⊗ (w ⊗ h ⊕ f ⊗ k) ⊗ (σ ⊗ σ ⊖ number (pos 1))) refl

im_law : (s σ y z h k w f : ℤ) → (s +ℤ s) *ℤ (σ *ℤ (y *ℤ neg_ℤ k +ℤ z *ℤ h)) -ℤ (h *ℤ h +ℤ k *ℤ k) *ℤ f -ℤ (((σ +ℤ σ) *ℤ (s *ℤ y -ℤ pos 32 *ℤ (pos 648 *ℤ σ *ℤ w -ℤ pos 0 *ℤ f)) -ℤ (w *ℤ (h -ℤ pos 41472) -ℤ f *ℤ (k -ℤ pos 0))) *ℤ neg_ℤ k +ℤ ((σ +ℤ σ) *ℤ (s *ℤ z -ℤ pos 32 *ℤ (pos 648 *ℤ σ *ℤ f +ℤ pos 0 *ℤ w)) -ℤ (w *ℤ (k -ℤ pos 0) +ℤ f *ℤ (h -ℤ pos 41472))) *ℤ h)
    ≡ pos 41472 *ℤ (f *ℤ h -ℤ w *ℤ k) *ℤ (σ *ℤ σ -ℤ pos 1)
im_law = ring 8 (λ s σ y z h k w f. (s ⊕ s) ⊗ (σ ⊗ (y ⊗ negated k ⊕ z ⊗ h)) ⊖ (h ⊗ h ⊕ k ⊗ k) ⊗ f ⊖ (((σ ⊕ σ) ⊗ (s ⊗ y ⊖ number (pos 32) ⊗ (number (pos 648) ⊗ σ ⊗ w ⊖ number (pos 0) ⊗ f)) ⊖ (w ⊗ (h ⊖ number (pos 41472)) ⊖ f ⊗ (k ⊖ number (pos 0)))) ⊗ negated k ⊕ ((σ ⊕ σ) ⊗ (s ⊗ z ⊖ number (pos 32) ⊗ (number (pos 648) ⊗ σ ⊗ f ⊕ number (pos 0) ⊗ w)) ⊖ (w ⊗ (k ⊖ number (pos 0)) ⊕ f ⊗ (h ⊖ number (pos 41472)))) ⊗ h)
    ≗ number (pos 41472) ⊗ (f ⊗ h ⊖ w ⊗ k) ⊗ (σ ⊗ σ ⊖ number (pos 1))) refl

-- what a pilot brings back, and how far it is from the channel's square times the turn
abbrev pub brought : ℤ → Cx → Cx → Cx
brought sign y h = multiple sign (times y (conjugate h))

abbrev pub away : ℤ → ℤ → Cx → Cx → Cx → Cx
away s sign y h w = minus (multiple (s +ℤ s) (brought sign y h)) (multiple (pos (squared_size h)) w)

abbrev pub carried_error : ℤ → ℤ → Cx → Cx → Cx
carried_error s sign y w = minus (multiple s y) (multiple (pos 32) (times (signed sign) w))

away_is : (s sign : ℤ) (y h w : Cx) → sign *ℤ sign ≡ pos 1 → away s sign y h w ≡ times (minus (multiple (sign +ℤ sign) (carried_error s sign y w)) (times w (minus h full))) (conjugate h)
unfolding times
away_is s sign y h w one =
    rw (← sum_of_squares_is h.re h.im)
    (same_parts _ _
    (equal_by_multiple _ _ (pos 41472 *ℤ (w.re *ℤ h.re +ℤ w.im *ℤ h.im)) (sign *ℤ sign) (pos 1) one (re_law s sign y.re y.im h.re h.im w.re w.im))
    (equal_by_multiple _ _ (pos 41472 *ℤ (w.im *ℤ h.re -ℤ w.re *ℤ h.im)) (sign *ℤ sign) (pos 1) one (im_law s sign y.re y.im h.re h.im w.re w.im)))

-- how large that is, at the scale 2^20
pub size_away : (k : ℕ) (sign : ℤ) (y h w : Cx) → sign *ℤ sign ≡ pos 1 → IsOfSize (1048576 * k) (carried_error (pos 1048576) sign y w) → IsOfSize (2 * k) (minus h full) → IsOfSize 1048578 w
    → IsOfSize ((2 * (1048576 * k) + 1048578 * (2 * k)) * (41472 + 2 * k)) (away (pos 1048576) sign y h w)
size_away k sign y h w one carried estimated turn =
    let twice = size-signed_twice sign (1048576 * k) _ one carried in
    let second = size-times 1048578 (2 * k) w (minus h full) turn estimated in
    let both = size-minus (2 * (1048576 * k)) (1048578 * (2 * k)) _ _ twice second in
    let channel : IsOfSize (41472 + 2 * k) h = size_of_channel k h estimated in
    rw (away_is (pos 1048576) sign y h w one) (size-times (2 * (1048576 * k) + 1048578 * (2 * k)) (41472 + 2 * k) _ (conjugate h) both (size-conjugate (41472 + 2 * k) h channel))
  where
    size-signed_twice : (sign : ℤ) (a : ℕ) (x : Cx) → sign *ℤ sign ≡ pos 1 → IsOfSize a x → IsOfSize (2 * a) (multiple (sign +ℤ sign) x)
    size-signed_twice sign a x one size =
        let small : unsigned_abs sign ≤ 1 = unsigned_abs-le sign 1 (rw one (pos-le 1 1 (omega arith))) in
        record { size = size_of_scaled (sign +ℤ sign) x.re x.im 2 a (omega (arith, ints)) size.size }

    back : (h : Cx) → plus full (minus h full) ≡ h
    back h = same_parts _ _ (law h.re (pos 41472)) (law h.im (pos 0))
      where
        law : (a b : ℤ) → b +ℤ (a -ℤ b) ≡ a
        law = ring 2 (λ a b. b ⊕ (a ⊖ b) ≗ a) refl

    size_of_channel : (k : ℕ) (h : Cx) → IsOfSize (2 * k) (minus h full) → IsOfSize (41472 + 2 * k) h
    size_of_channel k h estimated =
        let whole : IsOfSize 41472 full = record { size = pos-le (41472 * 41472) (41472 * 41472) (omega arith) } in
        rw (back h) at (size-plus 41472 (2 * k) full (minus h full) whole estimated)

-- ---- all four: P, M, and how far twice the scale times P is from M times the turn
four_law : (s p q r t m n o l w : ℤ) → (s +ℤ s) *ℤ (pos 0 +ℤ p +ℤ q +ℤ r +ℤ t) -ℤ (pos 0 +ℤ m +ℤ n +ℤ o +ℤ l) *ℤ w ≡ ((s +ℤ s) *ℤ p -ℤ m *ℤ w) +ℤ ((s +ℤ s) *ℤ q -ℤ n *ℤ w) +ℤ ((s +ℤ s) *ℤ r -ℤ o *ℤ w) +ℤ ((s +ℤ s) *ℤ t -ℤ l *ℤ w)
four_law = ring 10 (λ s p q r t m n o l w. (s ⊕ s) ⊗ (number (pos 0) ⊕ p ⊕ q ⊕ r ⊕ t) ⊖ (number (pos 0) ⊕ m ⊕ n ⊕ o ⊕ l) ⊗ w ≗ ((s ⊕ s) ⊗ p ⊖ m ⊗ w) ⊕ ((s ⊕ s) ⊗ q ⊖ n ⊗ w) ⊕ ((s ⊕ s) ⊗ r ⊖ o ⊗ w) ⊕ ((s ⊕ s) ⊗ t ⊖ l ⊗ w)) refl

-- four pairs summed, and four weights
abbrev pub four_pairs : Cx → Cx → Cx → Cx → Cx
four_pairs p q r t = plus (plus (plus (plus zero_pair p) q) r) t

abbrev pub four_weights : ℕ → ℕ → ℕ → ℕ → ℕ
four_weights m n o l = 0 + m + n + o + l

abbrev one_away : ℤ → Cx → ℕ → Cx → Cx
one_away s p m w = minus (multiple (s +ℤ s) p) (multiple (pos m) w)

pub size_four : (s : ℤ) (e : ℕ) (p q r t w : Cx) (m n o l : ℕ) → IsOfSize e (one_away s p m w) → IsOfSize e (one_away s q n w) → IsOfSize e (one_away s r o w) → IsOfSize e (one_away s t l w)
    → IsOfSize (e + e + e + e) (minus (multiple (s +ℤ s) (four_pairs p q r t)) (multiple (pos (four_weights m n o l)) w))
size_four s e p q r t w m n o l first second third fourth =
    let same : minus (multiple (s +ℤ s) (four_pairs p q r t)) (multiple (pos (four_weights m n o l)) w) ≡ plus (plus (plus (one_away s p m w) (one_away s q n w)) (one_away s r o w)) (one_away s t l w) =
    same_parts _ _ (four_law s p.re q.re r.re t.re (pos m) (pos n) (pos o) (pos l) w.re) (four_law s p.im q.im r.im t.im (pos m) (pos n) (pos o) (pos l) w.im) in
    rw same (size-plus (e + e + e) e _ _ (size-plus (e + e) e _ _ (size-plus e e _ _ first second) third) fourth)

-- ---- the quotient, rounded
abbrev pub quotient : ℕ → Cx → Cx
quotient weight sum = record { re = floor_div (pos 65536 *ℤ sum.re +ℤ pos weight) (2 * weight); im = floor_div (pos 65536 *ℤ sum.im +ℤ pos weight) (2 * weight) }

size_rounded : (weight : ℕ) (sum : Cx) → 0 < weight → IsOfSize (weight + weight) (minus (multiple (pos (2 * weight)) (quotient weight sum)) (multiple (pos 65536) sum))
size_rounded weight sum some =
    size-within weight _ (record { re = rounding_within (pos 65536 *ℤ sum.re) weight some; im = rounding_within (pos 65536 *ℤ sum.im) weight some })

-- the weight times how far the quotient is from the turn
told_law : (s m u p w : ℤ) → (m +ℤ m) *ℤ (s *ℤ u -ℤ pos 16384 *ℤ w) ≡ s *ℤ ((m +ℤ m) *ℤ u -ℤ pos 65536 *ℤ p) +ℤ pos 32768 *ℤ ((s +ℤ s) *ℤ p -ℤ m *ℤ w)
told_law = ring 5 (λ s m u p w. (m ⊕ m) ⊗ (s ⊗ u ⊖ number (pos 16384) ⊗ w) ≗ s ⊗ ((m ⊕ m) ⊗ u ⊖ number (pos 65536) ⊗ p) ⊕ number (pos 32768) ⊗ ((s ⊕ s) ⊗ p ⊖ m ⊗ w)) refl

pub told : (weight e most : ℕ) (sum w : Cx) → 0 < weight → IsOfSize e (minus (multiple (pos 1048576 +ℤ pos 1048576) sum) (multiple (pos weight) w))
    → 32768 * e ≤ (weight + weight) * (1048576 * most) → IsOfSize (1048576 * (1 + most)) (minus (multiple (pos 1048576) (quotient weight sum)) (multiple (pos 16384) w))
told weight e most sum w some distant enough =
    let u = quotient weight sum in
    let d = minus (multiple (pos 1048576) u) (multiple (pos 16384) w) in
    let twice : 2 * weight ≡ weight + weight = omega arith in
    let rounded = subst (λ n. IsOfSize (weight + weight) (minus (multiple (pos n) u) (multiple (pos 65536) sum))) twice (size_rounded weight sum some) in
    let both = size-plus (1048576 * (weight + weight)) (32768 * e) _ _ (size-multiple 1048576 (weight + weight) _ rounded) (size-multiple 32768 e _ distant) in
    let same : multiple (pos (weight + weight)) d ≡ plus (multiple (pos 1048576) (minus (multiple (pos (weight + weight)) u) (multiple (pos 65536) sum))) (multiple (pos 32768) (minus (multiple (pos 1048576 +ℤ pos 1048576) sum) (multiple (pos weight) w))) =
    same_parts _ _ (told_law (pos 1048576) (pos weight) u.re sum.re w.re) (told_law (pos 1048576) (pos weight) u.im sum.im w.im) in
    record {
      size = size_of_unscaled (weight + weight) d.re d.im (1048576 * (1 + most)) (omega arith)
          (wider (1048576 * (weight + weight) + 32768 * e) ((weight + weight) * (1048576 * (1 + most))) (multiple (pos (weight + weight)) d) (omega (arith, enough)) (rw same both)).size;
    }
