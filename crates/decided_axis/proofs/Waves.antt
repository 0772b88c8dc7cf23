-- Received carriers of samples near a wave, whose plain sum is near a carrier times a channel.
use Rattle.std.proofs.Common.{◌≡◌, ℕ, ◌+◌, ◌*◌, ◌^◌, ◌≤◌, refl, sym, ◌∙◌, arith, ℤ, pos, ◌+ℤ◌, ◌-ℤ◌, ◌*ℤ◌}
use Rattle.integer_laws.proofs.Ring.{ring, number, ◌⊕◌, ◌⊖◌, ◌⊗◌, ◌≗◌}
use Rattle.integer_laws.proofs.Sizes.{size_of_unscaled}
use Rattle.fixed_complex.specs.declared.Cx.{Cx}
use Rattle.fixed_complex.specs.PairLists.{entry}
use Rattle.fixed_complex.specs.Pairs.{IsOfSize, conjugate, minus, multiple, plus, times}
use Rattle.fixed_complex.specs.Turns.{turn_at}
use Rattle.fixed_complex.proofs.Pairs.{same_parts}
use Rattle.fixed_complex.proofs.PairSizes.{size-multiple, size-plus, size-times, size_by_parts, wider}
use Rattle.fixed_complex.proofs.Sums.{same_sums, times_sum}
use Rattle.butterfly64.specs.PlainSums.{plain_down}
use Rattle.plain_waves.specs.Bodies.{plain_body}
use Rattle.carrier_equaliser.proofs.ComingBack.{at_any_scale, plain_back}
use Rattle.decided_axis.specs.Laws.{CarriedByOne, CarriedByWave}

-- ---- by way of the plain sum of the wave
by_wave : (s f : ℤ) (y p z : Cx) → multiple (pos 2199023255552) (minus (multiple (s *ℤ f) y) (multiple (pos 32) z)) ≡ plus (multiple f (minus (multiple (pos 2199023255552 *ℤ s) y) p)) (minus (multiple f p) (multiple (pos 70368744177664) z))
by_wave s f y p z = same_parts _ _ (law s f y.re p.re z.re) (law s f y.im p.im z.im)
  where
    law : (s f y p z : ℤ) → pos 2199023255552 *ℤ (s *ℤ f *ℤ y -ℤ pos 32 *ℤ z) ≡ f *ℤ (pos 2199023255552 *ℤ s *ℤ y -ℤ p) +ℤ (f *ℤ p -ℤ pos 70368744177664 *ℤ z)
    law = ring 5 (λ s f y p z. number (pos 2199023255552) ⊗ (s ⊗ f ⊗ y ⊖ number (pos 32) ⊗ z) ≗ f ⊗ (number (pos 2199023255552) ⊗ s ⊗ y ⊖ p) ⊕ (f ⊗ p ⊖ number (pos 70368744177664) ⊗ z)) refl

pub carried_by_wave : CarriedByWave
carried_by_wave scale finer bound away channel sent wave body carriers bin near sums lt table =
    let y = entry carriers bin in
    let p = plain_down wave bin in
    let most = scale * (2 ^ 21 * 59316417 + 64 * (2965821 * 1048577 * bound)) in
    let noise = size-multiple finer most _ (at_any_scale scale bound wave body carriers near sums bin lt) in
    rw (by_wave (pos scale) (pos finer) y p (times sent channel)) (size-plus (finer * most) away _ _ noise table)

-- ---- one channel for all carriers
turned_term : (w x t : Cx) → times (times w x) t ≡ times w (times x t)
unfolding times
turned_term w x t = same_parts _ _ (re w.re w.im x.re x.im t.re t.im) (im w.re w.im x.re x.im t.re t.im)
  where
    re : (p q x y t u : ℤ) → (p *ℤ x -ℤ q *ℤ y) *ℤ t -ℤ (p *ℤ y +ℤ q *ℤ x) *ℤ u ≡ p *ℤ (x *ℤ t -ℤ y *ℤ u) -ℤ q *ℤ (x *ℤ u +ℤ y *ℤ t)
    re = ring 6 (λ p q x y t u. (p ⊗ x ⊖ q ⊗ y) ⊗ t ⊖ (p ⊗ y ⊕ q ⊗ x) ⊗ u ≗ p ⊗ (x ⊗ t ⊖ y ⊗ u) ⊖ q ⊗ (x ⊗ u ⊕ y ⊗ t)) refl

    im : (p q x y t u : ℤ) → (p *ℤ x -ℤ q *ℤ y) *ℤ u +ℤ (p *ℤ y +ℤ q *ℤ x) *ℤ t ≡ p *ℤ (x *ℤ u +ℤ y *ℤ t) +ℤ q *ℤ (x *ℤ t -ℤ y *ℤ u)
    im = ring 6 (λ p q x y t u. (p ⊗ x ⊖ q ⊗ y) ⊗ u ⊕ (p ⊗ y ⊕ q ⊗ x) ⊗ t ≗ p ⊗ (x ⊗ u ⊕ y ⊗ t) ⊕ q ⊗ (x ⊗ t ⊖ y ⊗ u)) refl

pub turned_sum : (w : Cx) (x : ℕ → Cx) (c : ℕ) → plain_down (λ n. times w (x n)) c ≡ times w (plain_down x c)
turned_sum w x c =
    let back = λ (n : ℕ). conjugate (turn_at (c * n)) in
    same_sums _ _ (λ n. turned_term w (x n) (back n)) 64 ∙ sym (times_sum w 64 (λ n. times (x n) (back n)))

turned_error : (w p x : Cx) → minus (multiple (pos 1) (times w p)) (multiple (pos 70368744177664) (times x w)) ≡ times w (minus p (multiple (pos 70368744177664) x))
unfolding times
turned_error w p x = same_parts _ _ (re w.re w.im p.re p.im x.re x.im) (im w.re w.im p.re p.im x.re x.im)
  where
    re : (w v p q x y : ℤ) → pos 1 *ℤ (w *ℤ p -ℤ v *ℤ q) -ℤ pos 70368744177664 *ℤ (x *ℤ w -ℤ y *ℤ v) ≡ w *ℤ (p -ℤ pos 70368744177664 *ℤ x) -ℤ v *ℤ (q -ℤ pos 70368744177664 *ℤ y)
    re = ring 6 (λ w v p q x y. number (pos 1) ⊗ (w ⊗ p ⊖ v ⊗ q) ⊖ number (pos 70368744177664) ⊗ (x ⊗ w ⊖ y ⊗ v) ≗ w ⊗ (p ⊖ number (pos 70368744177664) ⊗ x) ⊖ v ⊗ (q ⊖ number (pos 70368744177664) ⊗ y)) refl

    im : (w v p q x y : ℤ) → pos 1 *ℤ (w *ℤ q +ℤ v *ℤ p) -ℤ pos 70368744177664 *ℤ (x *ℤ v +ℤ y *ℤ w) ≡ w *ℤ (q -ℤ pos 70368744177664 *ℤ y) +ℤ v *ℤ (p -ℤ pos 70368744177664 *ℤ x)
    im = ring 6 (λ w v p q x y. number (pos 1) ⊗ (w ⊗ q ⊕ v ⊗ p) ⊖ number (pos 70368744177664) ⊗ (x ⊗ v ⊕ y ⊗ w) ≗ w ⊗ (q ⊖ number (pos 70368744177664) ⊗ y) ⊕ v ⊗ (p ⊖ number (pos 70368744177664) ⊗ x)) refl

enough : (scale bound size : ℕ) → 1000 * size ≤ 1001 * scale → 1 * (scale * (2 ^ 21 * 59316417 + 64 * (2965821 * 1048577 * bound))) + size * (13 * 2199023255552) ≤ 2199023255552 * (scale * (91 * bound + 70))
enough scale bound size small = omega arith

pub carried_by_one : CarriedByOne
carried_by_one scale bound size channel sent body carriers some small least within near sums bin lt =
    let p = plain_down (plain_body sent) bin in
    let away = size * (13 * 2199023255552) in
    let back = size_by_parts (9 * 2 ^ 41) (13 * 2199023255552) _ (omega arith) (plain_back sent within bin lt) in
    let table : IsOfSize away (minus (multiple (pos 1) (plain_down (λ n. times channel (plain_body sent n)) bin)) (multiple (pos 70368744177664) (times (sent bin) channel))) =
    rw (turned_sum channel (plain_body sent) bin, turned_error channel p (sent bin)) (size-times size (13 * 2199023255552) channel _ small back) in
    let most = 1 * (scale * (2 ^ 21 * 59316417 + 64 * (2965821 * 1048577 * bound))) + away in
    let all = carried_by_wave scale 1 bound away channel (sent bin) (λ n. times channel (plain_body sent n)) body carriers bin near sums lt table in
    let same : scale * 1 ≡ scale = omega arith in
    let here : IsOfSize most (multiple (pos 2199023255552) (minus (multiple (pos scale) (entry carriers bin)) (multiple (pos 32) (times (sent bin) channel)))) = rw same at all in
    let d = minus (multiple (pos scale) (entry carriers bin)) (multiple (pos 32) (times (sent bin) channel)) in
    record { near = record { size = size_of_unscaled 2199023255552 d.re d.im (scale * (91 * bound + 70)) (omega arith) (wider most (2199023255552 * (scale * (91 * bound + 70))) (multiple (pos 2199023255552) d) (enough scale bound size least) here).size } }
