-- The cyclic prefix theorem.
use Rattle.std.proofs.Common.{◌≡◌, ℕ, zero, suc, ◌+◌, ◌-◌, ◌*◌, ◌^◌, ◌<◌, ◌≤◌, List, nat_lt, if◌then◌else◌, refl, ap, sym, ◌∙◌, inl, inr, arith, ℤ, pos, ◌+ℤ◌, ◌-ℤ◌, ◌*ℤ◌}
use Rattle.std.proofs.lemmas.Bool.{cases_lt, le-ltb, lt-ltb}
use Rattle.integer_laws.proofs.Order.{pos-le}
use Rattle.integer_laws.proofs.Ring.{ring, number, ◌⊕◌, ◌⊖◌, ◌⊗◌, ◌≗◌}
use Rattle.integer_laws.proofs.Sizes.{size_of_unscaled}
use Rattle.fixed_complex.specs.declared.Cx.{Cx}
use Rattle.fixed_complex.specs.Laws.{sum_below}
use Rattle.fixed_complex.specs.PairLists.{entry}
use Rattle.fixed_complex.specs.Pairs.{IsOfSize, conjugate, minus, multiple, plus, times, zero_pair}
use Rattle.fixed_complex.specs.Turns.{turn_at}
use Rattle.fixed_complex.proofs.Pairs.{same_parts}
use Rattle.fixed_complex.proofs.PairSizes.{size-minus, size-multiple, size-times, size_by_parts, wider}
use Rattle.fixed_complex.proofs.Sums.{minus_sums, multiple_sum, plus_sums, same_sums, sum-local, times_sum, zero_times}
use Rattle.butterfly64.specs.PlainSums.{plain_down}
use Rattle.plain_waves.specs.Bodies.{plain_body}
use Rattle.echo_taps.specs.Taps.{IsEcho}
use Rattle.echo_taps.proofs.TapSums.{echo_of_size}
use Rattle.carrier_equaliser.proofs.ComingBack.{plain_back}
use Rattle.decided_axis.specs.Bodies.{FitABody}
use Rattle.decided_axis.proofs.Waves.{carried_by_wave, turned_sum}
use Rattle.echo_channels.specs.Channels.{channel_of, echoed_body}
use Rattle.echo_channels.specs.Laws.{CarriedInEcho, CyclicPrefix}
use Rattle.echo_channels.proofs.Late.{near_late}
use Rattle.echo_channels.proofs.Sizes.{channel_size, plain_part}

-- ---- the plain sum of an echoed body, tap by tap
plus_times : (a b t : Cx) → times (plus a b) t ≡ plus (times a t) (times b t)
unfolding times
plus_times a b t = same_parts _ _ (re a.re a.im b.re b.im t.re t.im) (im a.re a.im b.re b.im t.re t.im)
  where
    re : (a b c d t u : ℤ) → (a +ℤ c) *ℤ t -ℤ (b +ℤ d) *ℤ u ≡ (a *ℤ t -ℤ b *ℤ u) +ℤ (c *ℤ t -ℤ d *ℤ u)
    re = ring 6 (λ a b c d t u. (a ⊕ c) ⊗ t ⊖ (b ⊕ d) ⊗ u ≗ (a ⊗ t ⊖ b ⊗ u) ⊕ (c ⊗ t ⊖ d ⊗ u)) refl

    im : (a b c d t u : ℤ) → (a +ℤ c) *ℤ u +ℤ (b +ℤ d) *ℤ t ≡ (a *ℤ u +ℤ b *ℤ t) +ℤ (c *ℤ u +ℤ d *ℤ t)
    im = ring 6 (λ a b c d t u. (a ⊕ c) ⊗ u ⊕ (b ⊕ d) ⊗ t ≗ (a ⊗ u ⊕ b ⊗ t) ⊕ (c ⊗ u ⊕ d ⊗ t)) refl

none : (n : ℕ) → sum_below n (λ m. zero_pair) ≡ zero_pair
unfolding sum_below
none zero = refl
none (suc n) = ap (λ s. plus s zero_pair) (none n)

-- the plain sum of nothing
of_nothing : (c : ℕ) → plain_down (λ n. zero_pair) c ≡ zero_pair
of_nothing c = same_sums _ _ (λ n. zero_times (conjugate (turn_at (c * n)))) 64 ∙ none 64

of_both : (a b : ℕ → Cx) (c : ℕ) → plain_down (λ n. plus (a n) (b n)) c ≡ plus (plain_down a c) (plain_down b c)
of_both a b c =
    let back = λ (n : ℕ). conjugate (turn_at (c * n)) in
    same_sums _ _ (λ n. plus_times (a n) (b n) (back n)) 64 ∙ sym (plus_sums 64 (λ n. times (a n) (back n)) (λ n. times (b n) (back n)))

tap_by_tap : (taps : List Cx) (waves : ℕ → ℕ → Cx) (c k : ℕ) → plain_down (λ n. sum_below k (λ late. times (entry taps late) (waves late n))) c ≡ sum_below k (λ late. times (entry taps late) (plain_down (waves late) c))
unfolding sum_below
tap_by_tap taps waves c zero = of_nothing c
tap_by_tap taps waves c (suc k) =
    of_both (λ n. sum_below k (λ late. times (entry taps late) (waves late n))) (λ n. times (entry taps k) (waves k n)) c
    ∙ ap (λ s. plus s (plain_down (λ n. times (entry taps k) (waves k n)) c)) (tap_by_tap taps waves c k)
    ∙ ap (plus (sum_below k (λ late. times (entry taps late) (plain_down (waves late) c)))) (turned_sum (entry taps k) (waves k) c)

-- ---- by way of the plain sum of the body and the channel
tap_error : (h w d e : Cx) (c : ℤ) → times h (minus (times w d) (multiple c e)) ≡ minus (times d (times h w)) (multiple c (times h e))
unfolding times
tap_error h w d e c = same_parts _ _ (re h.re h.im w.re w.im d.re d.im e.re e.im c) (im h.re h.im w.re w.im d.re d.im e.re e.im c)
  where
    re : (h k w v d f e g c : ℤ) → h *ℤ ((w *ℤ d -ℤ v *ℤ f) -ℤ c *ℤ e) -ℤ k *ℤ ((w *ℤ f +ℤ v *ℤ d) -ℤ c *ℤ g) ≡ (d *ℤ (h *ℤ w -ℤ k *ℤ v) -ℤ f *ℤ (h *ℤ v +ℤ k *ℤ w)) -ℤ c *ℤ (h *ℤ e -ℤ k *ℤ g)
    re = ring 9 (λ h k w v d f e g c. h ⊗ ((w ⊗ d ⊖ v ⊗ f) ⊖ c ⊗ e) ⊖ k ⊗ ((w ⊗ f ⊕ v ⊗ d) ⊖ c ⊗ g) ≗ (d ⊗ (h ⊗ w ⊖ k ⊗ v) ⊖ f ⊗ (h ⊗ v ⊕ k ⊗ w)) ⊖ c ⊗ (h ⊗ e ⊖ k ⊗ g)) refl

    im : (h k w v d f e g c : ℤ) → h *ℤ ((w *ℤ f +ℤ v *ℤ d) -ℤ c *ℤ g) +ℤ k *ℤ ((w *ℤ d -ℤ v *ℤ f) -ℤ c *ℤ e) ≡ (d *ℤ (h *ℤ v +ℤ k *ℤ w) +ℤ f *ℤ (h *ℤ w -ℤ k *ℤ v)) -ℤ c *ℤ (h *ℤ g +ℤ k *ℤ e)
    im = ring 9 (λ h k w v d f e g c. h ⊗ ((w ⊗ f ⊕ v ⊗ d) ⊖ c ⊗ g) ⊕ k ⊗ ((w ⊗ d ⊖ v ⊗ f) ⊖ c ⊗ e) ≗ (d ⊗ (h ⊗ v ⊕ k ⊗ w) ⊕ f ⊗ (h ⊗ w ⊖ k ⊗ v)) ⊖ c ⊗ (h ⊗ g ⊕ k ⊗ e)) refl

by_channel : (g d p x : Cx) (c m : ℤ) → minus (multiple c p) (multiple m (times x g)) ≡ minus (times g (minus d (multiple m x))) (minus (times d g) (multiple c p))
unfolding times
by_channel g d p x c m = same_parts _ _ (re g.re g.im d.re d.im p.re x.re x.im c m) (im g.re g.im d.re d.im p.im x.re x.im c m)
  where
    re : (g f d e p x y c m : ℤ) → c *ℤ p -ℤ m *ℤ (x *ℤ g -ℤ y *ℤ f) ≡ (g *ℤ (d -ℤ m *ℤ x) -ℤ f *ℤ (e -ℤ m *ℤ y)) -ℤ ((d *ℤ g -ℤ e *ℤ f) -ℤ c *ℤ p)
    re = ring 9 (λ g f d e p x y c m. c ⊗ p ⊖ m ⊗ (x ⊗ g ⊖ y ⊗ f) ≗ (g ⊗ (d ⊖ m ⊗ x) ⊖ f ⊗ (e ⊖ m ⊗ y)) ⊖ ((d ⊗ g ⊖ e ⊗ f) ⊖ c ⊗ p)) refl

    im : (g f d e p x y c m : ℤ) → c *ℤ p -ℤ m *ℤ (x *ℤ f +ℤ y *ℤ g) ≡ (g *ℤ (e -ℤ m *ℤ y) +ℤ f *ℤ (d -ℤ m *ℤ x)) -ℤ ((d *ℤ f +ℤ e *ℤ g) -ℤ c *ℤ p)
    im = ring 9 (λ g f d e p x y c m. c ⊗ p ⊖ m ⊗ (x ⊗ f ⊕ y ⊗ g) ≗ (g ⊗ (e ⊖ m ⊗ y) ⊕ f ⊗ (d ⊖ m ⊗ x)) ⊖ ((d ⊗ f ⊕ e ⊗ g) ⊖ c ⊗ p)) refl

-- a bound on the size of a pair of a plain body
abbrev body_size : ℕ
body_size = 78819435936

-- what the table takes from one delay, and what all of it takes from the plain sum of an echoed body
abbrev late_error : ℕ
late_error = 64 * (78819435936 * 1387885)

abbrev pub table_error : ℕ
table_error = 1280 * 1048577 * (13 * 2199023255552) + 1280 * (64 * (78819435936 * 1387885))

module _ (taps : List Cx) (x : ℕ → Cx) (bin : ℕ) (echo : IsEcho taps) (fit : FitABody x) (lt : bin < 64) where
  body_of_size : (n : ℕ) → IsOfSize body_size (plain_body x n)
  body_of_size n = size_by_parts (50112 * 1048577) body_size _ (omega arith) (plain_part x n fit)

  abbrev turn : ℕ → Cx
  turn late = conjugate (turn_at (bin * late))

  abbrev unechoed : Cx
  unechoed = plain_down (plain_body x) bin

  abbrev late_by : ℕ → Cx
  late_by late = plain_down (λ n. plain_body x (n + 64 - late)) bin

  -- the error of one delay; past 64 no delay is asked for
  abbrev error : ℕ → Cx
  error late = if nat_lt late 8 then minus (times (turn late) unechoed) (multiple (pos 1048576) (late_by late)) else zero_pair

  error_small : (late : ℕ) → IsOfSize late_error (error late)
  error_small late =
      elim (cases_lt late 8) [
        | inl here ↦ rw (lt-ltb late 8 here) (near_late x bin late body_size (omega arith) body_of_size)
        | inr past ↦ rw (le-ltb late 8 past) (record { size = pos-le 0 (late_error * late_error) (omega arith) })
      ]

  all_errors : sum_below 8 (λ late. times (entry taps late) (error late)) ≡ minus (times unechoed (channel_of taps bin)) (multiple (pos 1048576) (plain_down (echoed_body taps x) bin))
  all_errors =
      sum-local 8 (λ late. times (entry taps late) (error late)) (λ late. minus (times unechoed (times (entry taps late) (turn late))) (multiple (pos 1048576) (times (entry taps late) (late_by late))))
      (λ late here. rw (lt-ltb late 8 here) (tap_error (entry taps late) (turn late) unechoed (late_by late) (pos 1048576)))
      ∙ sym (minus_sums 8 (λ late. times unechoed (times (entry taps late) (turn late))) (λ late. multiple (pos 1048576) (times (entry taps late) (late_by late))))
      ∙ ap (λ s. minus s (sum_below 8 (λ late. multiple (pos 1048576) (times (entry taps late) (late_by late))))) (sym (times_sum unechoed 8 (λ late. times (entry taps late) (turn late))))
      ∙ ap (minus (times unechoed (channel_of taps bin))) (sym (multiple_sum (pos 1048576) 8 (λ late. times (entry taps late) (late_by late))) ∙ ap (multiple (pos 1048576)) (sym (tap_by_tap taps (λ late n. plain_body x (n + 64 - late)) bin 8)))

  pub sum_is_near : IsOfSize table_error (minus (multiple (pos 1048576) (plain_down (echoed_body taps x) bin)) (multiple (pos 70368744177664) (times (x bin) (channel_of taps bin))))
  sum_is_near =
      let g = channel_of taps bin in
      let back = size_by_parts (9 * 2 ^ 41) (13 * 2199023255552) _ (omega arith) (plain_back x fit.within bin lt) in
      let one = size-times (1280 * 1048577) (13 * 2199023255552) g _ (channel_size taps bin echo) back in
      let errors : IsOfSize (1280 * late_error) (minus (times unechoed g) (multiple (pos 1048576) (plain_down (echoed_body taps x) bin))) = rw (← all_errors) (echo_of_size taps late_error error echo error_small) in
      rw (by_channel g unechoed (plain_down (echoed_body taps x) bin) (x bin) (pos 1048576) (pos 70368744177664))
      (size-minus (1280 * 1048577 * (13 * 2199023255552)) (1280 * late_error) _ _ one errors)

-- ---- the theorem
thousand_times : (z : Cx) → multiple (pos 1000) (multiple (pos 2199023255552) z) ≡ multiple (pos 2199023255552) (multiple (pos 1000) z)
thousand_times z = same_parts _ _ (law z.re) (law z.im)
  where
    law : (z : ℤ) → pos 1000 *ℤ (pos 2199023255552 *ℤ z) ≡ pos 2199023255552 *ℤ (pos 1000 *ℤ z)
    law = ring 1 (λ z. number (pos 1000) ⊗ (number (pos 2199023255552) ⊗ z) ≗ number (pos 2199023255552) ⊗ (number (pos 1000) ⊗ z)) refl

enough : (bound : ℕ) → 1000 * (1048576 * (1024 * (2 ^ 21 * 59316417 + 64 * (2965821 * 1048577 * bound))) + table_error) ≤ 2199023255552 * (2 ^ 30 * (90528 * bound + 88640))
enough bound = omega arith

pub cyclic_prefix : CyclicPrefix
cyclic_prefix bound taps x body carriers echo fit near sums bin lt =
    let d = minus (multiple (pos 1073741824) (entry carriers bin)) (multiple (pos 32) (times (x bin) (channel_of taps bin))) in
    let most = 1048576 * (1024 * (2 ^ 21 * 59316417 + 64 * (2965821 * 1048577 * bound))) + table_error in
    let all : IsOfSize most (multiple (pos 2199023255552) d) = carried_by_wave 1024 1048576 bound table_error (channel_of taps bin) (x bin) (echoed_body taps x) body carriers bin near.near sums lt (sum_is_near taps x bin echo fit lt) in
    let thousand : IsOfSize (1000 * most) (multiple (pos 2199023255552) (multiple (pos 1000) d)) = rw (← thousand_times d) (size-multiple 1000 most (multiple (pos 2199023255552) d) all) in
    record { size = size_of_unscaled 2199023255552 (pos 1000 *ℤ d.re) (pos 1000 *ℤ d.im) (2 ^ 30 * (90528 * bound + 88640)) (omega arith) (wider (1000 * most) (2199023255552 * (2 ^ 30 * (90528 * bound + 88640))) _ (enough bound) thousand).size }

pub carried_in_echo : CarriedInEcho
carried_in_echo bound taps x body carriers echo fit near sums bin lt =
    let d = minus (multiple (pos 1073741824) (entry carriers bin)) (multiple (pos 32) (times (x bin) (channel_of taps bin))) in
    let thousand = cyclic_prefix bound taps x body carriers echo fit near sums bin lt in
    record { near = record { size = size_of_unscaled 1000 d.re d.im (2 ^ 30 * (91 * bound + 89)) (omega arith) (wider (2 ^ 30 * (90528 * bound + 88640)) (1000 * (2 ^ 30 * (91 * bound + 89))) (multiple (pos 1000) d) (omega arith) thousand).size } }
