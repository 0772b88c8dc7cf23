-- Pairs over one channel: how far a received carrier is from the point, and how large the estimate is.
use Rattle.std.proofs.Common.{◌≡◌, ℕ, zero, suc, ◌+◌, ◌*◌, ◌<◌, ◌≤◌, refl, ap, sym, ◌∙◌, arith, inl, inr, mul-le-mul, ℤ, pos, ◌+ℤ◌, ◌-ℤ◌, ◌*ℤ◌, neg_ℤ, ◌≤ℤ◌, unsigned_abs}
use Rattle.std.proofs.lemmas.Bool.{cases_lt}
use Rattle.integer_laws.specs.Size.{sum_of_squares}
use Rattle.integer_laws.proofs.Order.{pos-le, unsigned_abs-le}
use Rattle.integer_laws.proofs.Ring.{equal_by_multiple, ring, negated, number, square, ◌⊕◌, ◌⊖◌, ◌⊗◌, ◌≗◌}
use Rattle.integer_laws.proofs.Sizes.{size_of_nat, size_of_scaled, size_of_unscaled, size_to_nat, sum_of_squares-product_with_conjugate, sum_of_squares-scaled, sum_of_squares_is}
use Rattle.fixed_complex.specs.declared.Cx.{Cx}
use Rattle.fixed_complex.specs.Pairs.{IsAtLeastOfSize, IsOfSize, conjugate, minus, multiple, plus, squared_size, times}
use Rattle.fixed_complex.proofs.Pairs.{same_parts}
use Rattle.fixed_complex.proofs.PairSizes.{least_squared, size-minus, size-multiple, size-plus, size-times, squared_size_is, wider}
use Rattle.fixed_complex.proofs.Sums.{minus_minus}
use Rattle.rate_table.specs.declared.Modulation.{Modulation}
use Rattle.constellations.specs.Axes.{amplitude_of}
use Rattle.constellations.specs.Decisions.{IsNear}
use Rattle.decided_axis.specs.Channels.{IsCarried, IsEstimated}

-- ---- an axis, from the size of the error
part_below : (p e m l a : ℕ) → p * p ≤ e * e * m → l * l ≤ m → e < a * l → p < a * m
part_below p e m zero a part least small = absurd (omega arith)
part_below p e m (suc l) a part least small =
    elim (cases_lt p (a * m)) [
      | inl below ↦ below
      | inr past ↦
          let squared : a * m * (a * m) ≤ p * p = mul-le-mul past past in
          let more : (e + 1) * (e + 1) ≤ a * suc l * (a * suc l) = mul-le-mul (omega arith) (omega arith) in
          let first : (e + 1) * (e + 1) * m ≤ a * suc l * (a * suc l) * m = mul-le-mul more (omega arith) in
          let second : a * a * m * (suc l * suc l) ≤ a * a * m * m = mul-le-mul (omega arith) least in
          absurd (omega arith)
    ]

-- the parts of the error times the conjugate of the estimate
parts_small : (a b u v : ℤ) (e : ℕ) → sum_of_squares a b ≤ℤ pos (e * e) → unsigned_abs (a *ℤ u +ℤ b *ℤ v) * unsigned_abs (a *ℤ u +ℤ b *ℤ v) + unsigned_abs (b *ℤ u -ℤ a *ℤ v) * unsigned_abs (b *ℤ u -ℤ a *ℤ v) ≤ e * e * (unsigned_abs u * unsigned_abs u + unsigned_abs v * unsigned_abs v)
parts_small a b u v e small =
    let n = unsigned_abs a * unsigned_abs a + unsigned_abs b * unsigned_abs b in
    let m = unsigned_abs u * unsigned_abs u + unsigned_abs v * unsigned_abs v in
    let product : sum_of_squares (a *ℤ u +ℤ b *ℤ v) (b *ℤ u -ℤ a *ℤ v) ≡ pos (n * m) =
    sum_of_squares-product_with_conjugate a b u v ∙ rw (sum_of_squares_is a b, sum_of_squares_is u v) refl in
    let whole = ap unsigned_abs (sym (sum_of_squares_is (a *ℤ u +ℤ b *ℤ v) (b *ℤ u -ℤ a *ℤ v)) ∙ product) in
    let within : n * m ≤ e * e * m = mul-le-mul (size_to_nat a b e small) (omega arith) in
    omega (arith, whole, within)

-- an axis times 1296, less the point's times the square of the channel's size
i_error : (y z x w u v : ℤ) → pos 1296 *ℤ (y *ℤ u -ℤ z *ℤ neg_ℤ v) -ℤ x *ℤ sum_of_squares u v ≡ (pos 1296 *ℤ y -ℤ (x *ℤ u -ℤ w *ℤ v)) *ℤ u +ℤ (pos 1296 *ℤ z -ℤ (x *ℤ v +ℤ w *ℤ u)) *ℤ v
i_error = ring 6 (λ y z x w u v. number (pos 1296) ⊗ (y ⊗ u ⊖ z ⊗ negated v) ⊖ x ⊗ (square u ⊕ square v) ≗ (number (pos 1296) ⊗ y ⊖ (x ⊗ u ⊖ w ⊗ v)) ⊗ u ⊕ (number (pos 1296) ⊗ z ⊖ (x ⊗ v ⊕ w ⊗ u)) ⊗ v) refl

q_error : (y z x w u v : ℤ) → pos 1296 *ℤ (y *ℤ neg_ℤ v +ℤ z *ℤ u) -ℤ w *ℤ sum_of_squares u v ≡ (pos 1296 *ℤ z -ℤ (x *ℤ v +ℤ w *ℤ u)) *ℤ u -ℤ (pos 1296 *ℤ y -ℤ (x *ℤ u -ℤ w *ℤ v)) *ℤ v
q_error = ring 6 (λ y z x w u v. number (pos 1296) ⊗ (y ⊗ negated v ⊕ z ⊗ u) ⊖ w ⊗ (square u ⊕ square v) ≗ (number (pos 1296) ⊗ z ⊖ (x ⊗ v ⊕ w ⊗ u)) ⊗ u ⊖ (number (pos 1296) ⊗ y ⊖ (x ⊗ u ⊖ w ⊗ v)) ⊗ v) refl

-- a point is near where 1296 times what is received is near the point times the estimate
pub near : (modulation : Modulation) (sent received estimate : Cx) (error left : ℕ) → IsOfSize error (minus (multiple (pos 1296) received) (times sent estimate)) → IsAtLeastOfSize left estimate → error < amplitude_of modulation * left → IsNear modulation sent (times received (conjugate estimate)) (squared_size estimate)
unfolding times
near modulation x y h e l error least small =
    let a = pos 1296 *ℤ y.re -ℤ (x.re *ℤ h.re -ℤ x.im *ℤ h.im) in
    let b = pos 1296 *ℤ y.im -ℤ (x.re *ℤ h.im +ℤ x.im *ℤ h.re) in
    let both = parts_small a b h.re h.im e error.size in
    let m = squared_size h in
    let large = least_squared l h least in
    let i = part_below (unsigned_abs (a *ℤ h.re +ℤ b *ℤ h.im)) e m l (amplitude_of modulation) (omega arith) large small in
    let q = part_below (unsigned_abs (b *ℤ h.re -ℤ a *ℤ h.im)) e m l (amplitude_of modulation) (omega arith) large small in
    record {
      i = rw (← squared_size_is h, i_error y.re y.im x.re x.im h.re h.im) i;
      q = λ _. rw (← squared_size_is h, q_error y.re y.im x.re x.im h.re h.im) q;
    }

-- ---- the channel falls out
-- the scale times the error of a point is the error of its carrier times 1296, less the error of the estimate times
-- the point
re_law : (s y x w h k g f : ℤ) → s *ℤ (pos 1296 *ℤ y -ℤ (x *ℤ h -ℤ w *ℤ k)) ≡ pos 1296 *ℤ (s *ℤ y -ℤ pos 32 *ℤ (x *ℤ g -ℤ w *ℤ f)) -ℤ (x *ℤ (s *ℤ h -ℤ pos 41472 *ℤ g) -ℤ w *ℤ (s *ℤ k -ℤ pos 41472 *ℤ f))
re_law = ring 8 (λ s y x w h k g f. s ⊗ (number (pos 1296) ⊗ y ⊖ (x ⊗ h ⊖ w ⊗ k)) ≗ number (pos 1296) ⊗ (s ⊗ y ⊖ number (pos 32) ⊗ (x ⊗ g ⊖ w ⊗ f)) ⊖ (x ⊗ (s ⊗ h ⊖ number (pos 41472) ⊗ g) ⊖ w ⊗ (s ⊗ k ⊖ number (pos 41472) ⊗ f))) refl

im_law : (s z x w h k g f : ℤ) → s *ℤ (pos 1296 *ℤ z -ℤ (x *ℤ k +ℤ w *ℤ h)) ≡ pos 1296 *ℤ (s *ℤ z -ℤ pos 32 *ℤ (x *ℤ f +ℤ w *ℤ g)) -ℤ (x *ℤ (s *ℤ k -ℤ pos 41472 *ℤ f) +ℤ w *ℤ (s *ℤ h -ℤ pos 41472 *ℤ g))
im_law = ring 8 (λ s z x w h k g f. s ⊗ (number (pos 1296) ⊗ z ⊖ (x ⊗ k ⊕ w ⊗ h)) ≗ number (pos 1296) ⊗ (s ⊗ z ⊖ number (pos 32) ⊗ (x ⊗ f ⊕ w ⊗ g)) ⊖ (x ⊗ (s ⊗ k ⊖ number (pos 41472) ⊗ f) ⊕ w ⊗ (s ⊗ h ⊖ number (pos 41472) ⊗ g))) refl

error_law : (s : ℤ) (y x h g : Cx) → multiple s (minus (multiple (pos 1296) y) (times x h)) ≡ minus (multiple (pos 1296) (minus (multiple s y) (multiple (pos 32) (times x g)))) (times x (minus (multiple s h) (multiple (pos 41472) g)))
unfolding times
error_law s y x h g = same_parts _ _ (re_law s y.re x.re x.im h.re h.im g.re g.im) (im_law s y.im x.re x.im h.re h.im g.re g.im)

pub deviation : (scale carried estimated size : ℕ) (channel sent received estimate : Cx) → 0 < scale → IsOfSize size sent → IsCarried scale carried channel sent received → IsEstimated scale estimated channel estimate → IsOfSize (1296 * carried + size * estimated) (minus (multiple (pos 1296) received) (times sent estimate))
deviation s k e a g x y h some point carried estimated =
    let d = minus (multiple (pos 1296) y) (times x h) in
    let first = size-multiple 1296 (s * k) _ carried.near in
    let second = size-times a (s * e) x _ point estimated.near in
    let both = size-minus (1296 * (s * k)) (a * (s * e)) _ _ first second in
    let all : IsOfSize (1296 * (s * k) + a * (s * e)) (multiple (pos s) d) = rw (error_law (pos s) y x h g) both in
    record { size = size_of_unscaled s d.re d.im (1296 * k + a * e) some (wider (1296 * (s * k) + a * (s * e)) (s * (1296 * k + a * e)) (multiple (pos s) d) (omega arith) all).size }

-- ---- how large the estimate is
squared_multiple : (n : ℕ) (a : Cx) → squared_size (multiple (pos n) a) ≡ n * n * squared_size a
squared_multiple n a =
    let whole : sum_of_squares (pos n *ℤ a.re) (pos n *ℤ a.im) ≡ pos (n * n * squared_size a) =
    sum_of_squares-scaled (pos n) a.re a.im ∙ rw (squared_size_is a) refl in
    ap unsigned_abs (sym (squared_size_is (multiple (pos n) a)) ∙ whole)

too_small : (d n l m : ℕ) → n * n * m ≤ d * d → l * l ≤ m → d < n * l → ⊥
too_small d n l m most least below =
    let more : (d + 1) * (d + 1) ≤ n * l * (n * l) = mul-le-mul (omega arith) (omega arith) in
    let scaled : n * n * (l * l) ≤ n * n * m = mul-le-mul (omega arith) least in
    omega arith

pub left_of : (scale error least left : ℕ) (channel estimate : Cx) → IsEstimated scale error channel estimate → IsAtLeastOfSize least channel → scale * left + scale * error < 41472 * least → IsAtLeastOfSize left estimate
left_of s e least left g h estimated large enough =
    elim (cases_lt (squared_size h) (left * left)) [
      | inl small ↦
          let size : IsOfSize left h = record { size = size_of_nat h.re h.im left (omega arith) } in
          let both = size-minus (s * left) (s * e) (multiple (pos s) h) _ (size-multiple s left h size) estimated.near in
          let whole : IsOfSize (s * left + s * e) (multiple (pos 41472) g) = rw (minus_minus (multiple (pos s) h) (multiple (pos 41472) g)) at both in
          let most = size_to_nat (pos 41472 *ℤ g.re) (pos 41472 *ℤ g.im) (s * left + s * e) whole.size in
          absurd (too_small (s * left + s * e) 41472 least (squared_size g) (omega (arith, most, squared_multiple 41472 g)) (least_squared least g large) enough)
      | inr past ↦ record { size = rw (squared_size_is h) (pos-le (left * left) (squared_size h) past) }
    ]

-- ---- the estimate by two carriers
two_law : (s σ y z g f : ℤ) → (s *ℤ (σ *ℤ (y +ℤ z)) -ℤ pos 41472 *ℤ g) -ℤ (σ *ℤ (s *ℤ y -ℤ pos 32 *ℤ (pos 648 *ℤ σ *ℤ g -ℤ pos 0 *ℤ f)) +ℤ σ *ℤ (s *ℤ z -ℤ pos 32 *ℤ (pos 648 *ℤ σ *ℤ g -ℤ pos 0 *ℤ f))) ≡ pos 41472 *ℤ g *ℤ (σ *ℤ σ -ℤ pos 1)
two_law = ring 6 (λ s σ y z g f. (s ⊗ (σ ⊗ (y ⊕ z)) ⊖ number (pos 41472) ⊗ g) ⊖ (σ ⊗ (s ⊗ y ⊖ number (pos 32) ⊗ (number (pos 648) ⊗ σ ⊗ g ⊖ number (pos 0) ⊗ f)) ⊕ σ ⊗ (s ⊗ z ⊖ number (pos 32) ⊗ (number (pos 648) ⊗ σ ⊗ g ⊖ number (pos 0) ⊗ f))) ≗ number (pos 41472) ⊗ g ⊗ (σ ⊗ σ ⊖ number (pos 1))) refl

other_law : (s σ y z g f : ℤ) → (s *ℤ (σ *ℤ (y +ℤ z)) -ℤ pos 41472 *ℤ g) -ℤ (σ *ℤ (s *ℤ y -ℤ pos 32 *ℤ (pos 648 *ℤ σ *ℤ g +ℤ pos 0 *ℤ f)) +ℤ σ *ℤ (s *ℤ z -ℤ pos 32 *ℤ (pos 648 *ℤ σ *ℤ g +ℤ pos 0 *ℤ f))) ≡ pos 41472 *ℤ g *ℤ (σ *ℤ σ -ℤ pos 1)
other_law = ring 6 (λ s σ y z g f. (s ⊗ (σ ⊗ (y ⊕ z)) ⊖ number (pos 41472) ⊗ g) ⊖ (σ ⊗ (s ⊗ y ⊖ number (pos 32) ⊗ (number (pos 648) ⊗ σ ⊗ g ⊕ number (pos 0) ⊗ f)) ⊕ σ ⊗ (s ⊗ z ⊖ number (pos 32) ⊗ (number (pos 648) ⊗ σ ⊗ g ⊕ number (pos 0) ⊗ f))) ≗ number (pos 41472) ⊗ g ⊗ (σ ⊗ σ ⊖ number (pos 1))) refl

-- 648 times a sign, as pilots and the long training field carry it
abbrev pub signed : ℤ → Cx
signed sign = record { re = pos 648 *ℤ sign; im = pos 0 }

-- a sign keeps a size
size-signed : (sign : ℤ) (a : ℕ) (x : Cx) → sign *ℤ sign ≡ pos 1 → IsOfSize a x → IsOfSize a (multiple sign x)
size-signed sign a x one size =
    let small : unsigned_abs sign ≤ 1 = unsigned_abs-le sign 1 (rw one (pos-le 1 1 (omega arith))) in
    wider (1 * a) a (multiple sign x) (omega arith) (record { size = size_of_scaled sign x.re x.im 1 a small size.size })

pub by_two : (scale error : ℕ) (sign : ℤ) (channel first second : Cx) → sign *ℤ sign ≡ pos 1 → IsCarried scale error channel (signed sign) first → IsCarried scale error channel (signed sign) second → IsEstimated scale (2 * error) channel (multiple sign (plus first second))
unfolding times
by_two s k σ g y z one first second =
    let p = minus (multiple (pos s) y) (multiple (pos 32) (times (signed σ) g)) in
    let q = minus (multiple (pos s) z) (multiple (pos 32) (times (signed σ) g)) in
    let both = size-plus (s * k) (s * k) _ _ (size-signed σ (s * k) p one first.near) (size-signed σ (s * k) q one second.near) in
    let same : minus (multiple (pos s) (multiple σ (plus y z))) (multiple (pos 41472) g) ≡ plus (multiple σ p) (multiple σ q) =
    same_parts _ _
    (equal_by_multiple _ _ (pos 41472 *ℤ g.re) (σ *ℤ σ) (pos 1) one (two_law (pos s) σ y.re z.re g.re g.im))
    (equal_by_multiple _ _ (pos 41472 *ℤ g.im) (σ *ℤ σ) (pos 1) one (other_law (pos s) σ y.im z.im g.im g.re)) in
    record { near = wider (s * k + s * k) (s * (2 * k)) _ (omega arith) (rw same both) }
