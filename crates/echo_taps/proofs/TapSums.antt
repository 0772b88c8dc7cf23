-- Sums over the taps of an echo.
use Rattle.std.proofs.Common.{◌≡◌, ℕ, zero, suc, ◌+◌, ◌*◌, ◌≤◌, List, length, map, sum, sum_by, refl, ap, sym, ◌∙◌, arith, ℤ, pos, ◌+ℤ◌, ◌-ℤ◌, ◌*ℤ◌, unsigned_abs}
use Rattle.std.specs.List.{range_with_len}
use Rattle.std.proofs.Math.Nat.{mul-le-mul_right}
use Rattle.std.proofs.lemmas.List.{ext_get_or}
use Rattle.std.proofs.lemmas.List.FromFn.{length-map-range_with_len, sum_by-map-range_with_len_more}
use Rattle.integer_laws.proofs.Order.{pos-le, unsigned_abs-difference, unsigned_abs-product, unsigned_abs-sum}
use Rattle.integer_laws.proofs.Ring.{ring, number, ◌⊕◌, ◌⊖◌, ◌≗◌}
use Rattle.integer_laws.proofs.Sizes.{size_of_parts_sum}
use Rattle.fixed_complex.specs.declared.Cx.{Cx}
use Rattle.fixed_complex.specs.Laws.{sum_below}
use Rattle.fixed_complex.specs.PairLists.{entry}
use Rattle.fixed_complex.specs.Pairs.{IsOfSize, IsWithin, minus, plus, times, zero_pair}
use Rattle.fixed_complex.proofs.PairLists.{entry-map}
use Rattle.fixed_complex.proofs.Pairs.{same_parts}
use Rattle.fixed_complex.proofs.PairSizes.{size-plus, size-times, wider, within_wider}
use Rattle.echo_taps.specs.Laws.{EchoBesideFirst, EchoOfSize, EchoWithin}
use Rattle.echo_taps.specs.Taps.{IsEcho, size_of_pair}

-- ---- one tap
size-tap : (tap : Cx) → IsOfSize (size_of_pair tap) tap
size-tap tap = record { size = size_of_parts_sum tap.re tap.im (unsigned_abs tap.re) (unsigned_abs tap.im) (omega arith) (omega arith) }

within-tap : (bound : ℕ) (tap pair : Cx) → IsWithin bound pair → IsWithin (size_of_pair tap * bound) (times tap pair)
unfolding times
within-tap bound tap pair within =
    let re_re = unsigned_abs-product tap.re pair.re (unsigned_abs tap.re) bound (omega arith) within.re in
    let im_im = unsigned_abs-product tap.im pair.im (unsigned_abs tap.im) bound (omega arith) within.im in
    let re_im = unsigned_abs-product tap.re pair.im (unsigned_abs tap.re) bound (omega arith) within.im in
    let im_re = unsigned_abs-product tap.im pair.re (unsigned_abs tap.im) bound (omega arith) within.re in
    record {
      re = omega (arith, re_re, im_im, unsigned_abs-difference (tap.re *ℤ pair.re) (tap.im *ℤ pair.im));
      im = omega (arith, re_im, im_re, unsigned_abs-sum (tap.re *ℤ pair.im) (tap.im *ℤ pair.re));
    }

-- ---- the sizes of so many taps, from one on
abbrev total : List Cx → ℕ → ℕ → ℕ
total taps from count = sum (map (λ late. size_of_pair (entry taps late)) (range_with_len from count))

total-more : (taps : List Cx) (from count : ℕ) → total taps from (suc count) ≡ total taps from count + size_of_pair (entry taps (from + count))
total-more taps from count =
    let next : suc count ≡ count + 1 = omega arith in
    ap (total taps from) next ∙ sum_by-map-range_with_len_more (λ size. size) (λ late. size_of_pair (entry taps late)) from count (from + count) refl

total_is : (taps : List Cx) → length taps ≡ 8 → sum_by size_of_pair taps ≡ total taps 0 8
total_is taps eight =
    let same : taps ≡ map (entry taps) (range_with_len 0 8) =
    ext_get_or zero_pair taps (map (entry taps) (range_with_len 0 8)) (eight ∙ sym (length-map-range_with_len (entry taps) 0 8)) (λ n lt. sym (entry-map (entry taps) 8 n (omega arith))) in
    ap (sum_by size_of_pair) same

total_all : (taps : List Cx) → IsEcho taps → total taps 0 8 ≤ 1280
total_all taps echo = omega (arith, echo.sizes, total_is taps echo.eight)

total_others : (taps : List Cx) → IsEcho taps → total taps 1 7 ≤ 256
total_others taps echo =
    let main : size_of_pair (entry taps 0) ≡ 1024 = ap size_of_pair echo.main in
    omega (arith, main, total_all taps echo)

-- ---- sums
module _ (taps : List Cx) (bound : ℕ) (pairs : ℕ → Cx) where
  abbrev term : ℕ → Cx
  term late = times (entry taps late) (pairs late)

  size-sum : ((late : ℕ) → IsOfSize bound (pairs late)) → (n : ℕ) → IsOfSize (total taps 0 n * bound) (sum_below n term)
  unfolding sum_below
  size-sum sizes zero = record { size = pos-le 0 (0 * bound * (0 * bound)) (omega arith) }
  size-sum sizes (suc n) =
      let more : total taps 0 (suc n) * bound ≡ total taps 0 n * bound + size_of_pair (entry taps n) * bound = let place : 0 + n ≡ n = omega arith in rw (total-more taps 0 n, place) (omega arith) in
      let last = size-times (size_of_pair (entry taps n)) bound (entry taps n) (pairs n) (size-tap (entry taps n)) (sizes n) in
      rw more (size-plus (total taps 0 n * bound) (size_of_pair (entry taps n) * bound) _ _ (size-sum sizes n) last)

  within-sum : ((late : ℕ) → IsWithin bound (pairs late)) → (n : ℕ) → IsWithin (total taps 0 n * bound) (sum_below n term)
  unfolding sum_below
  within-sum within zero = record { re = omega arith; im = omega arith }
  within-sum within (suc n) =
      let more : total taps 0 (suc n) * bound ≡ total taps 0 n * bound + size_of_pair (entry taps n) * bound = let place : 0 + n ≡ n = omega arith in rw (total-more taps 0 n, place) (omega arith) in
      let before = within-sum within n in
      let last = within-tap bound (entry taps n) (pairs n) (within n) in
      rw more (record {
        re = omega (arith, before.re, last.re, unsigned_abs-sum (sum_below n term).re (term n).re);
        im = omega (arith, before.im, last.im, unsigned_abs-sum (sum_below n term).im (term n).im);
      })

  -- what the others add to the first
  first_alone : (a : Cx) → minus (plus zero_pair a) a ≡ zero_pair
  first_alone a = same_parts _ _ (law a.re) (law a.im)
    where
      law : (a : ℤ) → pos 0 +ℤ a -ℤ a ≡ pos 0
      law = ring 1 (λ a. number (pos 0) ⊕ a ⊖ a ≗ number (pos 0)) refl

  one_more : (s a b : Cx) → minus (plus s b) a ≡ plus (minus s a) b
  one_more s a b = same_parts _ _ (law s.re a.re b.re) (law s.im a.im b.im)
    where
      law : (s a b : ℤ) → s +ℤ b -ℤ a ≡ s -ℤ a +ℤ b
      law = ring 3 (λ s a b. s ⊕ b ⊖ a ≗ s ⊖ a ⊕ b) refl

  size-others : ((late : ℕ) → IsOfSize bound (pairs late)) → (n : ℕ) → IsOfSize (total taps 1 n * bound) (minus (sum_below (suc n) term) (term 0))
  unfolding sum_below
  size-others sizes zero = rw (first_alone (term 0)) (record { size = pos-le 0 (0 * bound * (0 * bound)) (omega arith) })
  size-others sizes (suc n) =
      let more : total taps 1 (suc n) * bound ≡ total taps 1 n * bound + size_of_pair (entry taps (suc n)) * bound =
      let place : 1 + n ≡ suc n = omega arith in rw (total-more taps 1 n, place) (omega arith) in
      let last = size-times (size_of_pair (entry taps (suc n))) bound (entry taps (suc n)) (pairs (suc n)) (size-tap (entry taps (suc n))) (sizes (suc n)) in
      rw (more, one_more (sum_below (suc n) term) (term 0) (term (suc n))) (size-plus (total taps 1 n * bound) (size_of_pair (entry taps (suc n)) * bound) _ _ (size-others sizes n) last)

pub echo_of_size : EchoOfSize
echo_of_size taps bound pairs echo sizes =
    wider (total taps 0 8 * bound) (1280 * bound) _ (mul-le-mul_right bound (total_all taps echo)) (size-sum taps bound pairs sizes 8)

pub echo_within : EchoWithin
echo_within taps bound pairs echo within =
    within_wider (total taps 0 8 * bound) (1280 * bound) _ (mul-le-mul_right bound (total_all taps echo)) (within-sum taps bound pairs within 8)

pub echo_beside_first : EchoBesideFirst
echo_beside_first taps bound pairs echo sizes =
    wider (total taps 1 7 * bound) (256 * bound) _ (mul-le-mul_right bound (total_others taps echo)) (size-others taps bound pairs sizes 7)
