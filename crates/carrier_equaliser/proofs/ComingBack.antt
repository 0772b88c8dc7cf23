-- Carriers that were sent come back times 32.
use Rattle.std.proofs.Common.{◌≡◌, ℕ, zero, suc, ◌+◌, ◌*◌, ◌^◌, ◌<◌, ◌≤◌, List, length, map, refl, ap, subst, sym, ◌∙◌, arith, ℤ, pos, ◌+ℤ◌, ◌-ℤ◌, ◌*ℤ◌, neg_ℤ, unsigned_abs}
use Rattle.std.proofs.Math.Nat.{mul-le-mul}
use Rattle.std.proofs.lemmas.Int.{ints}
use Rattle.std.proofs.lemmas.List.FromFn.{length-map-range_with_len}
use Rattle.fixed_complex.specs.declared.Cx.{Cx}
use Rattle.fixed_complex.specs.declared.Sample.{Sample}
use Rattle.fixed_complex.specs.Laws.{sum_below}
use Rattle.fixed_complex.specs.Pairs.{IsOfSize, IsWithin, conjugate, minus, multiple, plus, times}
use Rattle.fixed_complex.specs.Turns.{turn_at}
use Rattle.integer_laws.proofs.Order.{unsigned_abs-difference, unsigned_abs-product, unsigned_abs-sum}
use Rattle.integer_laws.proofs.Ring.{ring, number, ◌⊕◌, ◌⊖◌, ◌⊗◌, ◌≗◌}
use Rattle.integer_laws.proofs.Sizes.{size_of_unscaled}
use Rattle.butterfly64.specs.PlainSums.{plain_down, plain_up}
use Rattle.fixed_complex.specs.PairLists.{entry}
use Rattle.fixed_complex.proofs.Sums.{minus_sums, multiple_sum, same_sums, size-sum}
use Rattle.fixed_complex.proofs.Pairs.{same_parts}
use Rattle.fixed_complex.proofs.PairSizes.{size-conjugate, size-multiple, size_by_parts, size-plus, size-times, wider}
use Rattle.fixed_complex.proofs.TurnLaws.{turn-size, turn-sum}
use Rattle.plain_waves.specs.Bodies.{all_times, plain_body}
use Rattle.plain_waves.specs.Nearness.{AreNearPlain}
use Rattle.fixed_complex.proofs.PairLists.{entry-map, everywhere_within}
use Rattle.carrier_equaliser.specs.Nearness.{AreNearPlainSums}
use Rattle.fixed_complex.specs.Samples.{pair_at}
use Rattle.carrier_equaliser.specs.Received.{received_at}
use Rattle.carrier_equaliser.specs.Laws.{ReceivedAreNear, ReceivedAtAnyScale}
use Rattle.butterfly64.proofs.SampleBudgets.{near_received}
use Rattle.plain_waves.proofs.Places.{plain_body-local}
use Rattle.std.specs.List.{range_with_len}
use Rattle.butterfly64.proofs.PlainBack.{near_carrier}

-- ---- what a plain sum of samples has beside that of a plain body
-- a scale times a pair, less the plain one
abbrev deviation : ℤ → (ℕ → Cx) → (ℕ → Cx) → ℕ → Cx
deviation scale r w n = minus (multiple scale (r n)) (w n)

deviation_term : (c : ℤ) (a b t : Cx) → times (minus (multiple c a) b) t ≡ minus (multiple c (times a t)) (times b t)
unfolding times
deviation_term c a b t = same_parts _ _ (re c a.re a.im b.re b.im t.re t.im) (im c a.re a.im b.re b.im t.re t.im)
  where
    re : (c x y u v p q : ℤ) → (c *ℤ x -ℤ u) *ℤ p -ℤ (c *ℤ y -ℤ v) *ℤ q ≡ c *ℤ (x *ℤ p -ℤ y *ℤ q) -ℤ (u *ℤ p -ℤ v *ℤ q)
    re = ring 7 (λ c x y u v p q. (c ⊗ x ⊖ u) ⊗ p ⊖ (c ⊗ y ⊖ v) ⊗ q ≗ c ⊗ (x ⊗ p ⊖ y ⊗ q) ⊖ (u ⊗ p ⊖ v ⊗ q)) refl

    im : (c x y u v p q : ℤ) → (c *ℤ x -ℤ u) *ℤ q +ℤ (c *ℤ y -ℤ v) *ℤ p ≡ c *ℤ (x *ℤ q +ℤ y *ℤ p) -ℤ (u *ℤ q +ℤ v *ℤ p)
    im = ring 7 (λ c x y u v p q. (c ⊗ x ⊖ u) ⊗ q ⊕ (c ⊗ y ⊖ v) ⊗ p ≗ c ⊗ (x ⊗ q ⊕ y ⊗ p) ⊖ (u ⊗ q ⊕ v ⊗ p)) refl

plain_down-deviation : (scale : ℤ) (r w : ℕ → Cx) (c : ℕ) → minus (multiple scale (plain_down r c)) (plain_down w c) ≡ plain_down (deviation scale r w) c
plain_down-deviation scale r w c =
    let back = λ (n : ℕ). conjugate (turn_at (c * n)) in
    ap (λ s. minus s (plain_down w c)) (multiple_sum scale 64 (λ n. times (r n) (back n)))
    ∙ minus_sums 64 (λ n. multiple scale (times (r n) (back n))) (λ n. times (w n) (back n))
    ∙ same_sums _ _ (λ n. sym (deviation_term scale (r n) (w n) (back n))) 64

-- 2^41 times a scale times a received carrier, less the plain sum of a wave, by way of the plain sum of the samples
by_way : (scale : ℤ) (y f p : Cx) → minus (multiple (pos 2199023255552 *ℤ scale) y) p ≡ plus (multiple (pos 2097152 *ℤ scale) (minus (multiple (pos 1048576) y) f)) (minus (multiple (pos 2097152 *ℤ scale) f) p)
by_way scale y f p = same_parts _ _ (law scale y.re f.re p.re) (law scale y.im f.im p.im)
  where
    law : (s y f p : ℤ) → pos 2199023255552 *ℤ s *ℤ y -ℤ p ≡ pos 2097152 *ℤ s *ℤ (pos 1048576 *ℤ y -ℤ f) +ℤ (pos 2097152 *ℤ s *ℤ f -ℤ p)
    law = ring 4 (λ s y f p. number (pos 2199023255552) ⊗ s ⊗ y ⊖ p ≗ number (pos 2097152) ⊗ s ⊗ (number (pos 1048576) ⊗ y ⊖ f) ⊕ (number (pos 2097152) ⊗ s ⊗ f ⊖ p)) refl

-- 2^41 times the deviation of a carrier that was sent, by way of the plain sum of its body
by_body : (y p x : Cx) → multiple (pos 2199023255552) (minus y (multiple (pos 32) x)) ≡ plus (minus (multiple (pos 2199023255552) y) p) (minus p (multiple (pos 70368744177664) x))
by_body y p x = same_parts _ _ (law y.re p.re x.re) (law y.im p.im x.im)
  where
    law : (y p x : ℤ) → pos 2199023255552 *ℤ (y -ℤ pos 32 *ℤ x) ≡ (pos 2199023255552 *ℤ y -ℤ p) +ℤ (p -ℤ pos 70368744177664 *ℤ x)
    law = ring 3 (λ y p x. number (pos 2199023255552) ⊗ (y ⊖ number (pos 32) ⊗ x) ≗ (number (pos 2199023255552) ⊗ y ⊖ p) ⊕ (p ⊖ number (pos 70368744177664) ⊗ x)) refl

-- ---- as sizes
size-plain_down : (bound : ℕ) (e : ℕ → Cx) (c : ℕ) → ((n : ℕ) → n < 64 → IsWithin (2097152 * bound) (e n)) → IsOfSize (64 * (2965821 * bound * 1048577)) (plain_down e c)
size-plain_down bound e c within =
    size-sum 64 (2965821 * bound * 1048577) (λ n. times (e n) (conjugate (turn_at (c * n))))
    (λ n lt. size-times (2965821 * bound) 1048577 (e n) (conjugate (turn_at (c * n))) (size_by_parts (2097152 * bound) (2965821 * bound) (e n) (omega arith) (within n lt)) (size-conjugate 1048577 (turn_at (c * n)) (turn-size (c * n))))

size_back : (bound : ℕ) (y p x : Cx) → IsOfSize (1 * (2 ^ 21 * 59316417 + 64 * (2965821 * 1048577 * bound))) (minus (multiple (pos 2199023255552) y) p) → IsWithin (9 * 2 ^ 41) (minus p (multiple (pos 70368744177664) x)) → IsOfSize (91 * bound + 70) (minus y (multiple (pos 32) x))
size_back bound y p x near undone =
    let d = minus y (multiple (pos 32) x) in
    let table = size_by_parts (9 * 2 ^ 41) (13 * 2199023255552) _ (omega arith) undone in
    let most = 1 * (2 ^ 21 * 59316417 + 64 * (2965821 * 1048577 * bound)) in
    let all : IsOfSize (most + 13 * 2199023255552) (multiple (pos 2199023255552) d) = rw (by_body y p x) (size-plus most (13 * 2199023255552) _ _ near table) in
    record { size = size_of_unscaled 2199023255552 d.re d.im (91 * bound + 70) (omega arith) (wider (most + 13 * 2199023255552) (2199023255552 * (91 * bound + 70)) (multiple (pos 2199023255552) d) (omega arith) all).size }

-- ---- and by components
within-sum_below : (n b : ℕ) (f : ℕ → Cx) → ((m : ℕ) → m < n → IsWithin b (f m)) → IsWithin (n * b) (sum_below n f)
unfolding sum_below
within-sum_below zero b f h = record { re = omega arith; im = omega arith }
within-sum_below (suc n) b f h =
    let before = within-sum_below n b f (λ m lt. h m (omega arith)) in
    let last = h n (omega arith) in
    record {
      re = omega (arith, before.re, last.re, unsigned_abs-sum (sum_below n f).re (f n).re);
      im = omega (arith, before.im, last.im, unsigned_abs-sum (sum_below n f).im (f n).im);
    }

-- a pair that is turned back
within-turned : (a s : ℕ) (e t : Cx) → IsWithin a e → unsigned_abs t.re + unsigned_abs t.im ≤ s → IsWithin (a * s) (times e (conjugate t))
unfolding times
within-turned a s e t within small =
    let back = neg_ℤ t.im in
    let same : unsigned_abs back ≡ unsigned_abs t.im = omega (arith, ints) in
    let all : a * (unsigned_abs t.re + unsigned_abs t.im) ≤ a * s = mul-le-mul (omega arith) small in
    let re_re = unsigned_abs-product e.re t.re a (unsigned_abs t.re) within.re (omega arith) in
    let im_im = unsigned_abs-product e.im back a (unsigned_abs t.im) within.im (omega (arith, same)) in
    let re_im = unsigned_abs-product e.re back a (unsigned_abs t.im) within.re (omega (arith, same)) in
    let im_re = unsigned_abs-product e.im t.re a (unsigned_abs t.re) within.im (omega arith) in
    record {
      re = omega (arith, all, re_re, im_im, unsigned_abs-difference (e.re *ℤ t.re) (e.im *ℤ back));
      im = omega (arith, all, re_im, im_re, unsigned_abs-sum (e.re *ℤ back) (e.im *ℤ t.re));
    }

within-plain_down : (bound : ℕ) (e : ℕ → Cx) (c : ℕ) → ((n : ℕ) → n < 64 → IsWithin (2097152 * bound) (e n)) → IsWithin (64 * (2097152 * bound * 1482910)) (plain_down e c)
within-plain_down bound e c within =
    within-sum_below 64 (2097152 * bound * 1482910) (λ n. times (e n) (conjugate (turn_at (c * n))))
    (λ n lt. within-turned (2097152 * bound) 1482910 (e n) (turn_at (c * n)) (within n lt) (turn-sum (c * n)))

part_back : (bound : ℕ) (y f p x : ℤ) → unsigned_abs (pos 1048576 *ℤ y -ℤ f) ≤ 40 * 2 ^ 20 → unsigned_abs (pos 2097152 *ℤ f -ℤ p) ≤ 64 * (2097152 * bound * 1482910) → unsigned_abs (p -ℤ pos 70368744177664 *ℤ x) ≤ 9 * 2 ^ 41 → unsigned_abs (y -ℤ pos 32 *ℤ x) ≤ 91 * bound + 49
part_back bound y f p x near noise undone = omega (arith, ints)

-- ---- the plain sum of the plain body of 64 bins
module _ (sent : ℕ → Cx) (sent_within : (bin : ℕ) → bin < 64 → IsWithin 954 (sent bin)) where
  -- what is sent in the 64 bins, and (0, 0) elsewhere
  abbrev kept : ℕ → Cx
  kept = entry (map sent (range_with_len 0 64))

  kept_is : (bin : ℕ) → bin < 64 → kept bin ≡ sent bin
  kept_is bin lt = entry-map sent 64 bin lt

  kept_within : (bin : ℕ) → IsWithin 954 (kept bin)
  kept_within =
      everywhere_within 954 (map sent (range_with_len 0 64))
      (record { each = λ n lt. let below : n < 64 = omega (arith, length-map-range_with_len sent 0 64) in rw (kept_is n below) (sent_within n below) })

  same_up : plain_up kept ≡ plain_up sent
  same_up = λ i n. plain_body-local kept sent kept_is n i

  pub plain_back : (bin : ℕ) → bin < 64 → IsWithin (9 * 2 ^ 41) (minus (plain_down (plain_up sent) bin) (multiple (pos 70368744177664) (sent bin)))
  plain_back bin lt =
      subst (λ x. IsWithin (9 * 2 ^ 41) (minus (plain_down (plain_up sent) bin) (multiple (pos 70368744177664) x))) (kept_is bin lt)
      (subst (λ wave. IsWithin (9 * 2 ^ 41) (minus (plain_down wave bin) (multiple (pos 70368744177664) (kept bin)))) same_up (near_carrier bin lt kept kept_within))

-- ---- the laws
pub received_are_near : ReceivedAreNear
received_are_near samples small = record {
  long = length-map-range_with_len (received_at (pair_at samples)) 0 64;
  each = λ bin lt.
      let near = near_received (pair_at samples) small bin lt in
      rw (entry-map (received_at (pair_at samples)) 64 bin lt) (record { re = near.re; im = near.im });
}

near_sum : (carriers : List Cx) (body : List Sample) → AreNearPlainSums 40 carriers body → (bin : ℕ) → bin < 64 → IsWithin (40 * 2 ^ 20) (minus (multiple (pos 1048576) (entry carriers bin)) (plain_down (pair_at body) bin))
near_sum carriers body sums bin lt = let part = sums.each bin lt in record { re = part.re; im = part.im }

pub at_any_scale : ReceivedAtAnyScale
at_any_scale scale bound wave body carriers near sums bin lt =
    let y = entry carriers bin in
    let f = plain_down (pair_at body) bin in
    let p = plain_down wave bin in
    let c = pos (2097152 * scale) in
    let rounding = size-multiple (2097152 * scale) 59316417 _ (size_by_parts (40 * 2 ^ 20) 59316417 _ (omega arith) (near_sum carriers body sums bin lt)) in
    let noise : IsOfSize (64 * (2965821 * (scale * bound) * 1048577)) (minus (multiple c f) p) = rw (plain_down-deviation c (pair_at body) wave bin) (size-plain_down (scale * bound) (deviation c (pair_at body) wave) bin near) in
    let both = size-plus (2097152 * scale * 59316417) (64 * (2965821 * (scale * bound) * 1048577)) _ _ rounding noise in
    let all : IsOfSize (2097152 * scale * 59316417 + 64 * (2965821 * (scale * bound) * 1048577)) (minus (multiple (pos (2199023255552 * scale)) y) p) = rw (by_way (pos scale) y f p) both in
    wider _ (scale * (2 ^ 21 * 59316417 + 64 * (2965821 * 1048577 * bound))) _ (omega arith) all

module _ (bound : ℕ) (sent : ℕ → Cx) (body : List Sample) (carriers : List Cx) (sent_within : (bin : ℕ) → bin < 64 → IsWithin 954 (sent bin))
    (near : AreNearPlain bound body (all_times (plain_body sent))) (sums : AreNearPlainSums 40 carriers body) (bin : ℕ) (lt : bin < 64) where
  near_body : (n : ℕ) → n < 64 → IsWithin (2097152 * bound) (deviation (pos 2097152) (pair_at body) (plain_up sent) n)
  near_body n below =
      let here : n < length body = omega (arith, near.long, length-map-range_with_len (plain_body sent) 0 64) in
      let part = rw (entry-map (plain_body sent) 64 n below) at (near.each n here) in
      record { re = part.i; im = part.q }

  abbrev y : Cx
  y = entry carriers bin

  abbrev f : Cx
  f = plain_down (pair_at body) bin

  abbrev p : Cx
  p = plain_down (plain_up sent) bin

  table : IsWithin (9 * 2 ^ 41) (minus p (multiple (pos 70368744177664) (sent bin)))
  table = plain_back sent sent_within bin lt

  pub comes_back : IsOfSize (91 * bound + 70) (minus y (multiple (pos 32) (sent bin)))
  comes_back =
      let near_bodies : (n : ℕ) → n < 64 → IsWithin (2 ^ 21 * (1 * bound)) (minus (multiple (pos (2 ^ 21 * 1)) (pair_at body n)) (plain_up sent n)) =
      λ n below. let part = near_body n below in record { re = omega (arith, part.re); im = omega (arith, part.im) } in
      size_back bound y p (sent bin) (at_any_scale 1 bound (plain_up sent) body carriers near_bodies sums bin lt) table

  pub parts_come_back : IsWithin (91 * bound + 49) (minus y (multiple (pos 32) (sent bin)))
  parts_come_back =
      let noise : IsWithin (64 * (2097152 * bound * 1482910)) (minus (multiple (pos 2097152) f) p) =
      rw (plain_down-deviation (pos 2097152) (pair_at body) (plain_up sent) bin) (within-plain_down bound (deviation (pos 2097152) (pair_at body) (plain_up sent)) bin near_body) in
      let sum = near_sum carriers body sums bin lt in
      record {
        re = part_back bound y.re f.re p.re (sent bin).re sum.re noise.re table.re;
        im = part_back bound y.im f.im p.im (sent bin).im sum.im noise.im table.im;
      }
