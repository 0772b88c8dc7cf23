-- The echo of a frame, alone for seven places, is near the echoed frame, and not held.
use Rattle.std.proofs.Common.{◌≡◌, ℕ, ◌+◌, ◌-◌, ◌*◌, ◌^◌, ◌<◌, ◌≤◌, List, length, drop, length-drop, nat_lt, if◌then◌else◌, refl, ap, subst, ◌∙◌, arith, inl, inr, ℤ, pos, ◌+ℤ◌, ◌-ℤ◌, ◌*ℤ◌, unsigned_abs}
use Rattle.std.proofs.lemmas.Bool.{cases_lt, le-ltb, lt-ltb}
use Rattle.std.proofs.lemmas.Int.{ints}
use Rattle.std.proofs.lemmas.List.{get_or-drop, get_or_past}
use Rattle.integer_laws.proofs.FloorDivision.{rounded_within, rounding_within}
use Rattle.integer_laws.proofs.Ring.{ring, ◌⊕◌, ◌⊖◌, ◌⊗◌, ◌≗◌}
use Rattle.fixed_complex.specs.declared.Cx.{Cx}
use Rattle.fixed_complex.specs.declared.Sample.{Sample}
use Rattle.fixed_complex.specs.Laws.{sum_below}
use Rattle.fixed_complex.specs.PairLists.{entry}
use Rattle.fixed_complex.specs.Pairs.{IsWithin, minus, multiple, rounded_pair, times, zero_pair}
use Rattle.fixed_complex.specs.Rounding.{half_up}
use Rattle.fixed_complex.specs.Samples.{as_sample, pair_at, pair_of, sample_at}
use Rattle.fixed_complex.proofs.Pairs.{same_parts}
use Rattle.fixed_complex.proofs.PairSizes.{within_wider}
use Rattle.fixed_complex.proofs.Samples.{same_sample}
use Rattle.fixed_complex.proofs.Sums.{minus_sums, multiple_sum, same_sums, sum-local}
use Rattle.lane_kernels.specs.Kernels.{held}
use Rattle.lane_kernels.proofs.Holding.{held-small}
use Rattle.plain_waves.specs.Bodies.{sent_body}
use Rattle.plain_waves.specs.Nearness.{IsNearPlain}
use Rattle.echo_taps.specs.Echoes.{earlier, echo_of, gathered, held_sample}
use Rattle.echo_taps.specs.Taps.{IsEcho}
use Rattle.echo_taps.proofs.Places.{echo_at, length-echo}
use Rattle.echo_taps.proofs.TapSums.{echo_within}
use Rattle.frame_fields.proofs.FramePlaces.{length-frame}
use Rattle.frame_fields.proofs.NearFrames.{near_frame, small_frame}
use Rattle.frame_lists.specs.Near.{SentFrame, plain_of, samples_of, sent_of}
use Rattle.frames_in_echoes.specs.Laws.{EchoIsNear, EchoIsNotHeld}
use Rattle.frames_in_echoes.specs.Waves.{BeginsNearEchoed, echoed_wave}

-- ---- what is small isn't held
rounded_part : (v : ℤ) (bound : ℕ) → bound ≤ 1000 → unsigned_abs v ≤ 1280 * (25058 + bound) → held (half_up 10 v) ≡ half_up 10 v
rounded_part v bound few small = held-small (half_up 10 v) (rounded_within v 512 32767 (omega arith) (omega arith))

rounded_alone : (bound : ℕ) (z : Cx) → bound ≤ 1000 → IsWithin (1280 * (25058 + bound)) z → held_sample z ≡ as_sample (rounded_pair 10 z)
rounded_alone bound z few small = same_sample _ _ (rounded_part z.re bound few small.re) (rounded_part z.im bound few small.im)

-- ---- what comes together of pairs that are small up to seven places before
echo_within_few : (taps : List Cx) (bound : ℕ) (pairs : ℕ → Cx) → IsEcho taps → ((late : ℕ) → late < 8 → IsWithin bound (pairs late)) → IsWithin (1280 * bound) (sum_below 8 (λ late. times (entry taps late) (pairs late)))
echo_within_few taps bound pairs echo within =
    let few = λ (late : ℕ). if nat_lt late 8 then pairs late else zero_pair in
    let small : (late : ℕ) → IsWithin bound (few late) =
    λ late. elim (cases_lt late 8) [
      | inl here ↦ rw (lt-ltb late 8 here) (within late here)
      | inr past ↦ rw (le-ltb late 8 past) (record { re = omega arith; im = omega arith })
    ] in
    let same : sum_below 8 (λ late. times (entry taps late) (few late)) ≡ sum_below 8 (λ late. times (entry taps late) (pairs late)) =
    sum-local 8 _ _ (λ late here. rw (lt-ltb late 8 here) refl) in
    subst (IsWithin (1280 * bound)) same (echo_within taps bound few echo small)

-- ---- a capture that is within a bound of a frame from a place on, and of silence in the seven places before
pub record IsNearAlone (bound start : ℕ) (capture : List Sample) (frame : SentFrame) : Type 0 where
  pub whole : start + samples_of frame ≤ length capture
  pub within : (time : ℕ) → time < samples_of frame → IsNearPlain bound (sample_at capture (start + time)) (entry (plain_of frame) time)
  pub before : (place : ℕ) → place < start → start ≤ place + 7 → IsNearPlain bound (sample_at capture place) zero_pair

-- the plain waveform is small, since what is sent of it is
plain_part : (s w : ℤ) → unsigned_abs (pos 2097152 *ℤ s -ℤ w) ≤ 2097152 * 1 → unsigned_abs s ≤ 25057 → unsigned_abs w ≤ 2097152 * 25058
plain_part s w near small = omega (arith, ints)

plain_small : (frame : SentFrame) (time : ℕ) → time < samples_of frame → IsWithin (2097152 * 25058) (entry (plain_of frame) time)
plain_small frame time lt =
    let here : time < length (sent_of frame) = omega (arith, length-frame sent_body frame.rate frame.seed frame.psdu) in
    let near = (near_frame frame.rate frame.seed frame.psdu).each time here in
    let small = (small_frame frame.rate frame.seed frame.psdu).each time here in
    let s = sample_at (sent_of frame) time in
    let w = entry (plain_of frame) time in
    record { re = plain_part s.i w.re near.i small.i; im = plain_part s.q w.im near.q small.q }

part_small : (r w : ℤ) (bound : ℕ) → unsigned_abs (pos 2097152 *ℤ r -ℤ w) ≤ 2097152 * bound → unsigned_abs w ≤ 2097152 * 25058 → unsigned_abs r ≤ 25058 + bound
part_small r w bound near small = omega (arith, ints)

pair_small : (bound : ℕ) (sample : Sample) (w : Cx) → IsNearPlain bound sample w → IsWithin (2097152 * 25058) w → IsWithin (25058 + bound) (pair_of sample)
pair_small bound sample w near small = record { re = part_small sample.i w.re bound near.i small.re; im = part_small sample.q w.im bound near.q small.im }

zero_small : IsWithin (2097152 * 25058) zero_pair
zero_small = record { re = omega arith; im = omega arith }

as_pairs : (bound : ℕ) (sample : Sample) (w : Cx) → IsNearPlain bound sample w → IsWithin (2097152 * bound) (minus (multiple (pos 2097152) (pair_of sample)) w)
as_pairs bound sample w near = record { re = near.i; im = near.q }

module _ (bound start : ℕ) (capture : List Sample) (frame : SentFrame) (alone : IsNearAlone bound start capture frame) (time : ℕ) (lt : time < samples_of frame) where
  -- what is earlier in the capture, and in the frame
  abbrev here : ℕ → Cx
  here late = earlier (pair_at capture) (start + time) late

  abbrev plain_here : ℕ → Cx
  plain_here late = earlier (entry (plain_of frame)) time late

  earlier_near : (late : ℕ) → late < 8 → IsWithin (2097152 * bound) (minus (multiple (pos 2097152) (here late)) (plain_here late)) × IsWithin (25058 + bound) (here late)
  earlier_near late few =
      elim (cases_lt (start + time) late) [
        | inl none ↦
            let early : time < late = omega arith in
            rw (lt-ltb (start + time) late none, lt-ltb time late early) (record { re = omega arith; im = omega arith }, record { re = omega arith; im = omega arith })
        | inr some ↦ elim (cases_lt time late) [
          | inl early ↦
              let near = alone.before (start + time - late) (omega arith) (omega arith) in
              rw (le-ltb (start + time) late some, lt-ltb time late early) (as_pairs bound _ zero_pair near, pair_small bound _ zero_pair near zero_small)
          | inr past ↦
              let place : start + time - late ≡ start + (time - late) = omega arith in
              let near = alone.within (time - late) (omega arith) in
              rw (le-ltb (start + time) late some, le-ltb time late past, place) (as_pairs bound _ (entry (plain_of frame) (time - late)) near, pair_small bound _ (entry (plain_of frame) (time - late)) near (plain_small frame (time - late) (omega arith)))
        ]
      ]

term_error : (h a b : Cx) (c : ℤ) → minus (multiple c (times h a)) (times h b) ≡ times h (minus (multiple c a) b)
unfolding times
term_error h a b c = same_parts _ _ (re h.re h.im a.re a.im b.re b.im c) (im h.re h.im a.re a.im b.re b.im c)
  where
    re : (h k a b d e c : ℤ) → c *ℤ (h *ℤ a -ℤ k *ℤ b) -ℤ (h *ℤ d -ℤ k *ℤ e) ≡ h *ℤ (c *ℤ a -ℤ d) -ℤ k *ℤ (c *ℤ b -ℤ e)
    re = ring 7 (λ h k a b d e c. c ⊗ (h ⊗ a ⊖ k ⊗ b) ⊖ (h ⊗ d ⊖ k ⊗ e) ≗ h ⊗ (c ⊗ a ⊖ d) ⊖ k ⊗ (c ⊗ b ⊖ e)) refl

    im : (h k a b d e c : ℤ) → c *ℤ (h *ℤ b +ℤ k *ℤ a) -ℤ (h *ℤ e +ℤ k *ℤ d) ≡ h *ℤ (c *ℤ b -ℤ e) +ℤ k *ℤ (c *ℤ a -ℤ d)
    im = ring 7 (λ h k a b d e c. c ⊗ (h ⊗ b ⊕ k ⊗ a) ⊖ (h ⊗ e ⊕ k ⊗ d) ≗ h ⊗ (c ⊗ b ⊖ e) ⊕ k ⊗ (c ⊗ a ⊖ d)) refl

module _ (taps : List Cx) (bound start : ℕ) (capture : List Sample) (frame : SentFrame) (echo : IsEcho taps) (alone : IsNearAlone bound start capture frame) (time : ℕ) (lt : time < samples_of frame) where
  gathered_within : IsWithin (1280 * (25058 + bound)) (gathered taps (pair_at capture) (start + time))
  unfolding gathered
  gathered_within = echo_within_few taps (25058 + bound) (here bound start capture frame alone time lt) echo (λ late few. (earlier_near bound start capture frame alone time lt late few).1)

  near_gathered : IsWithin (1280 * (2097152 * bound)) (minus (multiple (pos 2097152) (gathered taps (pair_at capture) (start + time))) (echoed_wave taps frame time))
  unfolding gathered
  near_gathered =
      let a = earlier (pair_at capture) (start + time) in
      let b = earlier (entry (plain_of frame)) time in
      let same : minus (multiple (pos 2097152) (sum_below 8 (λ late. times (entry taps late) (a late)))) (sum_below 8 (λ late. times (entry taps late) (b late))) ≡ sum_below 8 (λ late. times (entry taps late) (minus (multiple (pos 2097152) (a late)) (b late))) =
      ap (λ s. minus s (sum_below 8 (λ late. times (entry taps late) (b late)))) (multiple_sum (pos 2097152) 8 (λ late. times (entry taps late) (a late)))
      ∙ minus_sums 8 (λ late. multiple (pos 2097152) (times (entry taps late) (a late))) (λ late. times (entry taps late) (b late))
      ∙ same_sums _ _ (λ late. term_error (entry taps late) (a late) (b late) (pos 2097152)) 8 in
      rw same (echo_within_few taps (2097152 * bound) (λ late. minus (multiple (pos 2097152) (a late)) (b late)) echo (λ late few. (earlier_near bound start capture frame alone time lt late few).0))

-- ---- so is the echo, where nothing of it is held
part_near : (r z v : ℤ) (bound louder : ℕ) → 1280 * bound + 512 ≤ 1024 * louder → unsigned_abs (pos 1024 *ℤ r -ℤ z) ≤ 512 → unsigned_abs (pos 2097152 *ℤ z -ℤ v) ≤ 1280 * (2097152 * bound) → unsigned_abs (pos 2147483648 *ℤ r -ℤ v) ≤ 2147483648 * louder
part_near r z v bound louder enough rounding near = omega (arith, ints)

pub echo_alone_is_near : (taps : List Cx) (bound louder start : ℕ) (capture : List Sample) (frame : SentFrame) → IsEcho taps → bound ≤ 1000 → 1280 * bound + 512 ≤ 1024 * louder → IsNearAlone bound start capture frame → BeginsNearEchoed louder taps (drop start (echo_of taps capture)) frame
echo_alone_is_near taps bound louder start capture frame echo few enough alone = record { whole = omega (arith, alone.whole, length-echo taps capture, length-drop start (echo_of taps capture)); near = near }
  where
    near : (time : ℕ) → time < samples_of frame → IsWithin (2 ^ 31 * louder) (minus (multiple (pos (2 ^ 31)) (pair_at (drop start (echo_of taps capture)) time)) (echoed_wave taps frame time))
    near time lt =
        let z = gathered taps (pair_at capture) (start + time) in
        let v = echoed_wave taps frame time in
        let wave = near_gathered taps bound start capture frame echo alone time lt in
        let small = gathered_within taps bound start capture frame echo alone time lt in
        let place : sample_at (drop start (echo_of taps capture)) time ≡ as_sample (rounded_pair 10 z) =
        get_or-drop start (echo_of taps capture) time (record { i = pos 0; q = pos 0 })
        ∙ echo_at taps capture (start + time) (omega (arith, alone.whole))
        ∙ rounded_alone bound z few small in
        rw place (record {
          re = part_near (half_up 10 z.re) z.re v.re bound louder enough (rounding_within z.re 512 (omega arith)) wave.re;
          im = part_near (half_up 10 z.im) z.im v.im bound louder enough (rounding_within z.im 512 (omega arith)) wave.im;
        })

-- ---- the sent samples alone
sent_alone : (frame : SentFrame) → IsNearAlone 1 0 (sent_of frame) frame
sent_alone frame =
    let long = length-frame sent_body frame.rate frame.seed frame.psdu in
    record {
      whole = omega (arith, long);
      within = λ time lt. let same : 0 + time ≡ time = omega arith in rw same ((near_frame frame.rate frame.seed frame.psdu).each time (omega (arith, long)));
      before = λ place lt least. absurd (omega arith);
    }

pub echo_is_near : EchoIsNear
echo_is_near taps frame echo = echo_alone_is_near taps 1 2 0 (sent_of frame) frame echo (omega arith) (omega arith) (sent_alone frame)

-- nothing of its echo is held, the seven samples behind its end included
sent_within : (frame : SentFrame) (n : ℕ) → IsWithin 25057 (pair_at (sent_of frame) n)
sent_within frame n =
    elim (cases_lt n (length (sent_of frame))) [
      | inl here ↦ let small = (small_frame frame.rate frame.seed frame.psdu).each n here in record { re = small.i; im = small.q }
      | inr past ↦ rw (get_or_past (sent_of frame) n (record { i = pos 0; q = pos 0 }) past) (record { re = omega arith; im = omega arith })
    ]

earlier_within : (bound : ℕ) (pairs : ℕ → Cx) (place late : ℕ) → ((n : ℕ) → IsWithin bound (pairs n)) → IsWithin bound (earlier pairs place late)
earlier_within bound pairs place late within =
    elim (cases_lt place late) [
      | inl before ↦ rw (lt-ltb place late before) (record { re = omega arith; im = omega arith })
      | inr past ↦ rw (le-ltb place late past) (within (place - late))
    ]

pub echo_is_not_held : EchoIsNotHeld
unfolding gathered
echo_is_not_held taps frame place echo =
    let z = gathered taps (pair_at (sent_of frame)) place in
    let small : IsWithin (1280 * 25057) z = echo_within taps 25057 (λ late. earlier (pair_at (sent_of frame)) place late) echo (λ late. earlier_within 25057 (pair_at (sent_of frame)) place late (sent_within frame)) in
    rounded_alone 0 z (omega arith) (within_wider (1280 * 25057) (1280 * (25058 + 0)) z (omega arith) small)
