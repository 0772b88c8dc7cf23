-- What comes together at four places and at sixteen, delay by delay.
use Rattle.std.proofs.Common.{◌≡◌, ℕ, suc, ◌+◌, ◌-◌, ◌*◌, ◌^◌, ◌<◌, ◌≤◌, List, [], ◌∷◌, ◌++◌, ℤ, pos, neg_ℤ, ◌+ℤ◌, ◌*ℤ◌, to_z, of_z, refl, sym, ap, ◌∙◌, arith}
use Rattle.std.specs.Prelude.{unsigned_abs}
use Rattle.std.proofs.lemmas.Bool.{le-ltb}
use Rattle.std.proofs.lemmas.Int.{ints, to_z-of_z}
use Rattle.std.proofs.lemmas.List.{append_assoc}
use Rattle.std.proofs.lemmas.List.FromFn.{map-range_with_len_more}
use mir.Syntax.{w16}
use Rattle.integer_laws.proofs.Order.{unsigned_abs-product}
use Rattle.integer_laws.proofs.Products.{neg_ℤ-*ℤ}
use Rattle.fixed_complex.specs.declared.Cx.{Cx}
use Rattle.fixed_complex.specs.declared.Sample.{Sample}
use Rattle.fixed_complex.specs.Laws.{sum_below}
use Rattle.fixed_complex.specs.Numbers.{NumbersWithin, number_at}
use Rattle.fixed_complex.specs.PairLists.{entry}
use Rattle.fixed_complex.specs.Pairs.{IsWithin, plus, times, zero_pair}
use Rattle.fixed_complex.specs.Rounding.{half_up}
use Rattle.fixed_complex.specs.Samples.{pair_at, pair_of, sample_at}
use Rattle.fixed_complex.proofs.Sums.{plus_zero, within-more, zero_times}
use Rattle.lane_kernels.specs.Lanes.{AreOf16Bits, components_of, eight, four}
use Rattle.lane_kernels.proofs.Bounds.{size-le}
use Rattle.lane_kernels.proofs.FourLanes.{four-each}
use Rattle.lane_kernels.proofs.Holding.{held-fits}
use Rattle.lane_kernels.proofs.Parts.{IsOf16Bits}
use Rattle.lane_kernels.proofs.Totals.{eight-each}
use Rattle.echo_taps.specs.declared.lanes.Block.{Block}
use Rattle.echo_taps.specs.declared.lanes.Four.{Four}
use Rattle.echo_taps.specs.Blocks.{AreBlockSums, AreSums, IsFourWithin, echo_below, gathered_by, held_block, held_four, held_part, held_parts, in_turn, parts_of}
use Rattle.echo_taps.specs.Echoes.{earlier, gathered, held_sample}

-- ---- a tap's numbers in lanes
turn-within : (a b : ℤ) (bound : ℕ) → unsigned_abs a ≤ bound → unsigned_abs b ≤ bound → NumbersWithin bound (in_turn a b)
turn-within a b bound h k = eight-each (λ z. unsigned_abs z ≤ bound) (number_at (in_turn a b)) h k h k h k h k (omega arith)

pub real_within : (by : List ℤ) (tap : Cx) → by ≡ in_turn tap.re (neg_ℤ tap.im) → IsWithin 1024 tap → NumbersWithin 1024 by
real_within by tap is within = rw is (turn-within tap.re (neg_ℤ tap.im) 1024 within.re (omega (arith, ints, within.im)))

pub imaginary_within : (by : List ℤ) (tap : Cx) → by ≡ in_turn tap.im tap.re → IsWithin 1024 tap → NumbersWithin 1024 by
imaginary_within by tap is within = rw is (turn-within tap.im tap.re 1024 within.im within.re)

pub of_16_bits : (by : List ℤ) → NumbersWithin 1024 by → AreOf16Bits by
of_16_bits by within n = let h = within n in omega (arith, ints)

pub products_within : (by x p : List ℤ) → p ≡ eight (λ n. number_at by n *ℤ number_at x n) → NumbersWithin 1024 by → AreOf16Bits x → NumbersWithin (2 ^ 25) p
products_within by x p is h k =
    let one = λ (n : ℕ). let e = unsigned_abs-product (number_at by n) (number_at x n) 1024 32768 (h n) (size-le (number_at x n) (k n)) in
    let small : unsigned_abs (number_at by n *ℤ number_at x n) ≤ 2 ^ 25 = omega (arith, e) in small in
    rw is (eight-each (λ z. unsigned_abs z ≤ 2 ^ 25) (λ n. number_at by n *ℤ number_at x n) (one 0) (one 1) (one 2) (one 3) (one 4) (one 5) (one 6) (one 7) (omega arith))

-- ---- four sums
parts-same : (f g : ℕ → Cx) → ((n : ℕ) → n < 4 → f n ≡ g n) → parts_of f ≡ parts_of g
parts-same f g h =
    let h0 = h 0 (omega arith) in let h1 = h 1 (omega arith) in let h2 = h 2 (omega arith) in let h3 = h 3 (omega arith) in
    λ i. record {
      re = (h0 i).re ∷ (h1 i).re ∷ (h2 i).re ∷ (h3 i).re ∷ [];
      im = (h0 i).im ∷ (h1 i).im ∷ (h2 i).im ∷ (h3 i).im ∷ [];
    }

parts-within : (f : ℕ → Cx) (bound : ℕ) → ((n : ℕ) → n < 4 → IsWithin bound (f n)) → IsFourWithin bound (parts_of f)
parts-within f bound h =
    let h0 = h 0 (omega arith) in let h1 = h 1 (omega arith) in let h2 = h 2 (omega arith) in let h3 = h 3 (omega arith) in
    record {
      re = four-each (λ z. unsigned_abs z ≤ bound) (λ n. (f n).re) h0.re h1.re h2.re h3.re (omega arith);
      im = four-each (λ z. unsigned_abs z ≤ bound) (λ n. (f n).im) h0.im h1.im h2.im h3.im (omega arith);
    }

pub sums_within : (count : ℕ) (taps : List Cx) (samples : List Sample) (place : ℕ) (sums : Four) → count ≤ 8 → AreSums count taps samples place sums → IsFourWithin (2 ^ 29) sums
sums_within count taps samples place sums few are =
    rw are.value (parts-within (λ n. gathered_by count taps (pair_at samples) (place + n)) (2 ^ 29) (λ n below.
    let h = are.within n below in record { re = omega (arith, h.re); im = omega (arith, h.im) }))

real_part : (s : ℤ) (tap : Cx) (a : Sample) → s +ℤ (tap.re *ℤ a.i +ℤ neg_ℤ tap.im *ℤ a.q) ≡ s +ℤ (times tap (pair_of a)).re
unfolding times
real_part s tap a = omega (arith, ints, neg_ℤ-*ℤ tap.im a.q)

imaginary_part : (s : ℤ) (tap : Cx) (a : Sample) → s +ℤ (tap.im *ℤ a.i +ℤ tap.re *ℤ a.q) ≡ s +ℤ (times tap (pair_of a)).im
unfolding times
imaginary_part s tap a = omega (arith, ints)

-- what four sums and the products of a tap make
pub real_sums : (tap : Cx) (f : ℕ → Cx) (a : ℕ → Sample) (s by x p r : List ℤ) → s ≡ four (λ n. (f n).re) → by ≡ in_turn tap.re (neg_ℤ tap.im) → x ≡ components_of a → p ≡ eight (λ n. number_at by n *ℤ number_at x n)
    → r ≡ four (λ n. number_at s n +ℤ (number_at p (2 * n) +ℤ number_at p (2 * n + 1))) → r ≡ four (λ n. (f n).re +ℤ (times tap (pair_of (a n))).re)
real_sums tap f a s by x p r s_is by_is x_is p_is r_is =
    let e0 = real_part (f 0).re tap (a 0) in let e1 = real_part (f 1).re tap (a 1) in let e2 = real_part (f 2).re tap (a 2) in let e3 = real_part (f 3).re tap (a 3) in
    rw (r_is, p_is, x_is, by_is, s_is) (λ i. e0 i ∷ e1 i ∷ e2 i ∷ e3 i ∷ [])

pub imaginary_sums : (tap : Cx) (f : ℕ → Cx) (a : ℕ → Sample) (s by x p r : List ℤ) → s ≡ four (λ n. (f n).im) → by ≡ in_turn tap.im tap.re → x ≡ components_of a → p ≡ eight (λ n. number_at by n *ℤ number_at x n)
    → r ≡ four (λ n. number_at s n +ℤ (number_at p (2 * n) +ℤ number_at p (2 * n + 1))) → r ≡ four (λ n. (f n).im +ℤ (times tap (pair_of (a n))).im)
imaginary_sums tap f a s by x p r s_is by_is x_is p_is r_is =
    let e0 = imaginary_part (f 0).im tap (a 0) in let e1 = imaginary_part (f 1).im tap (a 1) in let e2 = imaginary_part (f 2).im tap (a 2) in let e3 = imaginary_part (f 3).im tap (a 3) in
    rw (r_is, p_is, x_is, by_is, s_is) (λ i. e0 i ∷ e1 i ∷ e2 i ∷ e3 i ∷ [])

-- ---- one delay more
earlier-is : (pairs : ℕ → Cx) (place late : ℕ) → late ≤ place → earlier pairs place late ≡ pairs (place - late)
earlier-is pairs place late before = rw (le-ltb place late before) refl

gathered-more : (taps : List Cx) (pairs : ℕ → Cx) (late place : ℕ) → gathered_by (late + 1) taps pairs place ≡ plus (gathered_by late taps pairs place) (times (entry taps late) (earlier pairs place late))
unfolding sum_below
gathered-more taps pairs late place = let next : late + 1 ≡ suc late = omega arith in rw next refl

product-within : (tap : Cx) (a : Sample) → IsWithin 1024 tap → IsOf16Bits a → IsWithin (2 ^ 26) (times tap (pair_of a))
unfolding times
product-within tap a h k =
    let i = size-le a.i k.i in
    let q = size-le a.q k.q in
    let re_i = unsigned_abs-product tap.re a.i 1024 32768 h.re i in
    let im_q = unsigned_abs-product tap.im a.q 1024 32768 h.im q in
    let re_q = unsigned_abs-product tap.re a.q 1024 32768 h.re q in
    let im_i = unsigned_abs-product tap.im a.i 1024 32768 h.im i in
    record { re = omega (arith, ints, re_i, im_q); im = omega (arith, ints, re_q, im_i) }

pub one_delay_more : (taps : List Cx) (samples : List Sample) (late place at : ℕ) (sums result : Four) (a : ℕ → Sample) → late ≤ place → at ≡ place - late → ((n : ℕ) → n < 4 → a n ≡ sample_at samples (at + n)) → ((n : ℕ) → n < 4 → IsOf16Bits (a n))
    → IsWithin 1024 (entry taps late) → AreSums late taps samples place sums
    → result ≡ parts_of (λ n. plus (gathered_by late taps (pair_at samples) (place + n)) (times (entry taps late) (pair_of (a n)))) → AreSums (late + 1) taps samples place result
one_delay_more taps samples late place at sums result a before at_is a_is bits tap are is =
    let step = λ (n : ℕ) (below : n < 4).
    let there : at + n ≡ place + n - late = omega arith in
    let same : earlier (pair_at samples) (place + n) late ≡ pair_of (a n) =
    earlier-is (pair_at samples) (place + n) late (omega arith) ∙ ap (pair_at samples) (sym there) ∙ ap (λ s. pair_of s) (sym (a_is n below)) in
    let more : gathered_by (late + 1) taps (pair_at samples) (place + n) ≡ plus (gathered_by late taps (pair_at samples) (place + n)) (times (entry taps late) (pair_of (a n))) =
    gathered-more taps (pair_at samples) late (place + n) ∙ ap (λ x. plus (gathered_by late taps (pair_at samples) (place + n)) (times (entry taps late) x)) same in
    more in
    record {
      value = is ∙ sym (parts-same _ _ step);
      within = λ n below. rw (step n below) (within-more (2 ^ 26) late _ _ (are.within n below) (product-within (entry taps late) (a n) tap (bits n below)));
    }

-- a delay without a tap
no_delay_more : (taps : List Cx) (samples : List Sample) (late place : ℕ) (sums : Four) → entry taps late ≡ zero_pair → AreSums late taps samples place sums → AreSums (late + 1) taps samples place sums
no_delay_more taps samples late place sums none are =
    let step = λ (n : ℕ).
    let same : gathered_by (late + 1) taps (pair_at samples) (place + n) ≡ gathered_by late taps (pair_at samples) (place + n) =
    gathered-more taps (pair_at samples) late (place + n)
    ∙ ap (λ x. plus (gathered_by late taps (pair_at samples) (place + n)) (times x (earlier (pair_at samples) (place + n) late))) none
    ∙ ap (plus (gathered_by late taps (pair_at samples) (place + n))) (zero_times (earlier (pair_at samples) (place + n) late))
    ∙ plus_zero (gathered_by late taps (pair_at samples) (place + n)) in
    same in
    record {
      value = are.value ∙ sym (parts-same _ _ (λ n _. step n));
      within = λ n below. let h = are.within n below in rw (step n) (record { re = omega (arith, h.re); im = omega (arith, h.im) });
    }

pub no_tap : (taps : List Cx) (samples : List Sample) (late place : ℕ) (block : Block) → (entry taps late).re ≡ pos 0 → (entry taps late).im ≡ pos 0 → AreBlockSums late taps samples place block → AreBlockSums (late + 1) taps samples place block
no_tap taps samples late place block re im are =
    let none : entry taps late ≡ zero_pair = λ i. record { re = re i; im = im i } in
    record {
      first = no_delay_more taps samples late place block.first none are.first;
      second = no_delay_more taps samples late (place + 4) block.second none are.second;
      third = no_delay_more taps samples late (place + 8) block.third none are.third;
      fourth = no_delay_more taps samples late (place + 12) block.fourth none are.fourth;
    }

-- no delay yet
pub none_yet : (taps : List Cx) (samples : List Sample) (place : ℕ) → AreSums 0 taps samples place (record { re = four (λ _. pos 0); im = four (λ _. pos 0) })
unfolding sum_below
none_yet taps samples place = record { value = refl; within = λ n below. record { re = omega arith; im = omega arith } }

-- ---- held samples
abbrev short : ℤ → ℤ
short z = to_z w16 (of_z w16 z)

abbrev samples_in : List ℤ → List Sample
samples_in x =
    record { i = short (number_at x 0); q = short (number_at x 1) } ∷ record { i = short (number_at x 2); q = short (number_at x 3) }
    ∷ record { i = short (number_at x 4); q = short (number_at x 5) } ∷ record { i = short (number_at x 6); q = short (number_at x 7) } ∷ []

kept : (z : ℤ) → short (held_part z) ≡ held_part z
kept z = to_z-of_z w16 (held_part z) (held-fits (half_up 10 z))

pub samples_are : (x : List ℤ) (sums : Four) → x ≡ held_parts sums → samples_in x ≡ held_four sums
samples_are x sums is =
    let re = number_at sums.re in
    let im = number_at sums.im in
    rw is (λ i. record { i = kept (re 0) i; q = kept (im 0) i } ∷ record { i = kept (re 1) i; q = kept (im 1) i } ∷ record { i = kept (re 2) i; q = kept (im 2) i } ∷ record { i = kept (re 3) i; q = kept (im 3) i } ∷ [])

pub block_samples : (a b c d : List ℤ) (block : Block) → a ≡ held_parts block.first → b ≡ held_parts block.second → c ≡ held_parts block.third → d ≡ held_parts block.fourth
    → samples_in a ++ samples_in b ++ samples_in c ++ samples_in d ≡ held_block block
block_samples a b c d block first second third fourth =
    let e0 = samples_are a block.first first in
    let e1 = samples_are b block.second second in
    let e2 = samples_are c block.third third in
    let e3 = samples_are d block.fourth fourth in
    λ i. e0 i ++ e1 i ++ e2 i ++ e3 i

-- ---- the echo so far
one_by_one : (l : List Sample) (a b c d : Sample) → l ++ a ∷ [] ++ b ∷ [] ++ c ∷ [] ++ d ∷ [] ≡ l ++ a ∷ b ∷ c ∷ d ∷ []
one_by_one [] a b c d = refl
one_by_one (x ∷ l) a b c d = ap (λ r. x ∷ r) (one_by_one l a b c d)

module _ (taps : List Cx) (samples : List Sample) where
  abbrev sample_of : ℕ → Sample
  sample_of place = held_sample (gathered taps (pair_at samples) place)

  four-echoed : (place : ℕ) (sums : Four) → AreSums 8 taps samples place sums → held_four sums ≡ four (λ n. sample_of (place + n))
  unfolding gathered
  four-echoed place sums are = ap held_four are.value

  one_echoed : (place next : ℕ) → next ≡ place + 1 → echo_below taps samples next ≡ echo_below taps samples place ++ sample_of place ∷ []
  one_echoed place next is = ap (echo_below taps samples) is ∙ map-range_with_len_more sample_of 0 place place (omega arith)

  four_more : (place : ℕ) (sums : Four) → AreSums 8 taps samples place sums → echo_below taps samples place ++ held_four sums ≡ echo_below taps samples (place + 4)
  four_more place sums are =
      let s = λ (n : ℕ). sample_of (place + n) in
      let here : place ≡ place + 0 = omega arith in
      let first : echo_below taps samples (place + 1) ≡ echo_below taps samples place ++ s 0 ∷ [] = one_echoed place (place + 1) refl ∙ ap (λ m. echo_below taps samples place ++ sample_of m ∷ []) here in
      let second = one_echoed (place + 1) (place + 2) (omega arith) ∙ ap (λ l. l ++ s 1 ∷ []) first in
      let third = one_echoed (place + 2) (place + 3) (omega arith) ∙ ap (λ l. l ++ s 2 ∷ []) second in
      let fourth = one_echoed (place + 3) (place + 4) (omega arith) ∙ ap (λ l. l ++ s 3 ∷ []) third in
      ap (λ l. echo_below taps samples place ++ l) (four-echoed place sums are) ∙ sym (fourth ∙ one_by_one (echo_below taps samples place) (s 0) (s 1) (s 2) (s 3))

  -- sixteen more
  pub block_more : (place : ℕ) (block : Block) → AreBlockSums 8 taps samples place block → echo_below taps samples place ++ held_block block ≡ echo_below taps samples (place + 16)
  block_more place block are =
      let below = echo_below taps samples in
      let a = held_four block.first in let b = held_four block.second in let c = held_four block.third in let d = held_four block.fourth in
      let eight_on : place + 4 + 4 ≡ place + 8 = omega arith in
      let twelve_on : place + 8 + 4 ≡ place + 12 = omega arith in
      let sixteen_on : place + 12 + 4 ≡ place + 16 = omega arith in
      let first = four_more place block.first are.first in
      let second = ap (λ l. l ++ b) first ∙ four_more (place + 4) block.second are.second ∙ ap below eight_on in
      let third = ap (λ l. l ++ c) second ∙ four_more (place + 8) block.third are.third ∙ ap below twelve_on in
      let fourth = ap (λ l. l ++ d) third ∙ four_more (place + 12) block.fourth are.fourth ∙ ap below sixteen_on in
      sym (append_assoc (below place) (a ++ b ++ c) d) ∙ ap (λ l. l ++ d) (sym (append_assoc (below place) (a ++ b) c)) ∙ ap (λ l. l ++ c ++ d) (sym (append_assoc (below place) a b)) ∙ fourth
