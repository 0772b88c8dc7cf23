-- The turned samples of a frame are near its waveform with turns, and nothing of its symbols is held.
use Rattle.std.proofs.Common.{◌≡◌, ℕ, ◌+◌, ◌-◌, ◌*◌, ◌/◌, ◌%◌, ◌^◌, ◌<◌, ◌≤◌, List, length, drop, cond, true, refl, ap, sym, ◌∙◌, arith, inl, inr, ℤ, pos, ◌+ℤ◌, ◌-ℤ◌, ◌*ℤ◌, unsigned_abs, int_le}
use Rattle.std.proofs.lemmas.Bool.{agree_below_at, cases_lt, le-ltb, lt-ltb}
use Rattle.std.proofs.lemmas.Int.{ints}
use Rattle.std.proofs.lemmas.List.{get_or-drop, length-drop, length-take}
use Rattle.std.proofs.lemmas.List.FromFn.{length-map-range_with_len}
use Rattle.integer_laws.specs.Size.{sum_of_squares}
use Rattle.integer_laws.proofs.Order.{unsigned_abs-product}
use Rattle.integer_laws.proofs.Ring.{ring, number, ◌⊕◌, ◌⊖◌, ◌⊗◌, ◌≗◌}
use Rattle.fixed_complex.specs.declared.Cx.{Cx}
use Rattle.fixed_complex.specs.declared.Sample.{Sample}
use Rattle.fixed_complex.specs.PairLists.{entry}
use Rattle.fixed_complex.specs.Pairs.{IsOfSize, IsWithin, minus, multiple, plus, scaled_product, times}
use Rattle.fixed_complex.specs.Samples.{pair_at, sample_at}
use Rattle.fixed_complex.specs.Turns.{turn_at}
use Rattle.fixed_complex.proofs.ByTable.{at_most}
use Rattle.fixed_complex.proofs.Pairs.{same_parts}
use Rattle.fixed_complex.proofs.Turning.{turn_in_table}
use Rattle.fixed_complex.specs.Rounding.{half_up}
use Rattle.integer_laws.proofs.FloorDivision.{rounded_within, rounding_within}
use Rattle.integer_laws.proofs.Sizes.{size_of_unscaled}
use Rattle.fixed_complex.proofs.PairSizes.{size-plus, size-times, size-within, wider, within-size}
use Rattle.fixed_complex.proofs.Samples.{same_sample, sample-map}
use Rattle.fixed_complex.proofs.TurnLaws.{turn-size, turn-sum}
use Rattle.lane_kernels.specs.Kernels.{held}
use Rattle.lane_kernels.proofs.Holding.{held-small}
use Rattle.plain_waves.specs.Bodies.{plain_body, sent_body}
use Rattle.plain_waves.specs.Nearness.{AreNearPlain}
use Rattle.rate_table.specs.Symbols.{symbol_count}
use Rattle.rate_table.specs.Table.{row_of}
use Rattle.symbol_turns.specs.Turning.{turn_of_symbol, turned_at, turned_sample, turned_samples}
use Rattle.frame_fields.specs.Frames.{frame_bin}
use Rattle.frame_fields.proofs.FramePlaces.{in_symbol, length-frame}
use Rattle.frame_fields.proofs.NearFrames.{near_frame}
use Rattle.frame_lists.specs.Near.{SentFrame, plain_of, samples_of, sent_of}
use Rattle.frames_in_noise.proofs.Codes.{frame_fit}
use Rattle.frames_in_noise.proofs.Parts.{part_at}
use Rattle.symbols_turned.specs.Turns.{IsTurn, unturned}
use Rattle.frames_turned.specs.Laws.{HoldsFrame, TurnedIsNear, TurnedIsNotHeld, TurnedIsRead, TurnedIsThere}
use Rattle.frames_turned.specs.Waves.{BeginsNearTurned, turned_wave}
use Rattle.frames_turned.proofs.Frames.{phase_least, turned_frame_is_read, turned_frame_is_there}
use Rattle.frames_turned.proofs.Parts.{body_of_size, turn_before, turn_behind}

-- ---- the turns of the table
pub table_turn : (m : ℕ) → IsTurn (turn_at m)
unfolding turn_at
table_turn m =
    let inside : m % 64 < 64 = omega arith in
    rw (turn_in_table m) (record {
      least = at_most _ _ (agree_below_at (λ k. int_le (pos (2 ^ 40 - 2 ^ 22)) (sum_of_squares (turn_at k).re (turn_at k).im)) (λ _. true) 64 (m % 64) refl inside);
      most = at_most _ _ (agree_below_at (λ k. int_le (sum_of_squares (turn_at k).re (turn_at k).im) (pos (2 ^ 40 + 2 ^ 22))) (λ _. true) 64 (m % 64) refl inside);
    })

-- ---- the sent samples of a frame
long_sent : (frame : SentFrame) → length (sent_of frame) ≡ samples_of frame
long_sent frame = length-frame sent_body frame.rate frame.seed frame.psdu

near_sent : (frame : SentFrame) (time : ℕ) → time < samples_of frame → IsWithin 2097152 (minus (multiple (pos 2097152) (pair_at (sent_of frame) time)) (entry (plain_of frame) time))
near_sent frame time lt =
    let near : AreNearPlain 1 (sent_of frame) (plain_of frame) = near_frame frame.rate frame.seed frame.psdu in
    let part = near.each time (omega (arith, long_sent frame)) in
    record { re = omega (arith, part.i); im = omega (arith, part.q) }

-- ---- none is held
plain_symbol_size : (frame : SentFrame) (time : ℕ) → 320 ≤ time → time < samples_of frame → IsOfSize (50112 * 1048577) (entry (plain_of frame) time)
plain_symbol_size frame time behind lt =
    let n = (time - 320) / 80 in
    let t = (time - 320) % 80 in
    let sent : n ≤ symbol_count (row_of frame.rate).field_bits (length frame.psdu) = omega arith in
    let place : time ≡ 320 + 80 * n + t = omega arith in
    let body = frame_bin frame.rate frame.seed frame.psdu n in
    let there : entry (plain_of frame) time ≡ plain_body body ((t + 48) % 64) = ap (entry (plain_of frame)) place ∙ in_symbol plain_body frame.rate frame.seed frame.psdu n t _ sent (omega arith) in
    rw there (body_of_size body (frame_fit frame n sent) ((t + 48) % 64))

-- 2^21 times a sample is at most 2^21 * 25059 in size
back : (r v : Cx) → plus (minus (multiple (pos 2097152) r) v) v ≡ multiple (pos 2097152) r
back r v = same_parts _ _ (law r.re v.re) (law r.im v.im)
  where
    law : (r v : ℤ) → (pos 2097152 *ℤ r -ℤ v) +ℤ v ≡ pos 2097152 *ℤ r
    law = ring 2 (λ r v. (number (pos 2097152) ⊗ r ⊖ v) ⊕ v ≗ number (pos 2097152) ⊗ r) refl

sent_size : (frame : SentFrame) (time : ℕ) → 320 ≤ time → time < samples_of frame → IsOfSize 25059 (pair_at (sent_of frame) time)
sent_size frame time behind lt =
    let r = pair_at (sent_of frame) time in
    let v = entry (plain_of frame) time in
    let both = size-plus (2097152 + 2097152) (50112 * 1048577) _ v (size-within 2097152 _ (near_sent frame time lt)) (plain_symbol_size frame time behind lt) in
    let whole : IsOfSize (2097152 + 2097152 + 50112 * 1048577) (multiple (pos 2097152) r) = rw (back r v) at both in
    record { size = size_of_unscaled 2097152 r.re r.im 25059 (omega arith) (wider (2097152 + 2097152 + 50112 * 1048577) (2097152 * 25059) (multiple (pos 2097152) r) (omega arith) whole).size }

rounded_small : (z : ℤ) → unsigned_abs z ≤ 1048577 * 25059 → unsigned_abs (half_up 20 z) ≤ 32767
rounded_small z small = rounded_within z 524288 32767 (omega arith) (omega arith)

pub not_held : TurnedIsNotHeld
unfolding scaled_product
not_held step time frame behind lt =
    let turn = turn_of_symbol step ((time - 320) / 80) in
    let r = pair_at (sent_of frame) time in
    let product = within-size (1048577 * 25059) (times turn r) (size-times 1048577 25059 turn r (turn-size _) (sent_size frame time behind lt)) in
    same_sample _ _ (held-small _ (rounded_small (times turn r).re product.re)) (held-small _ (rounded_small (times turn r).im product.im))

-- ---- how near it is
before_near : (r v u : ℤ) → unsigned_abs (pos 2097152 *ℤ r -ℤ v) ≤ 2097152 → unsigned_abs (pos 2199023255552 *ℤ r -ℤ (pos 1048576 *ℤ v -ℤ pos 0 *ℤ u)) ≤ 2199023255552 * 2
before_near r v u near = omega (arith, ints)

before_near_im : (r v u : ℤ) → unsigned_abs (pos 2097152 *ℤ r -ℤ v) ≤ 2097152 → unsigned_abs (pos 2199023255552 *ℤ r -ℤ (pos 1048576 *ℤ v +ℤ pos 0 *ℤ u)) ≤ 2199023255552 * 2
before_near_im r v u near = omega (arith, ints)

re_error : (t s r q v w u : ℤ) → pos 2199023255552 *ℤ u -ℤ (t *ℤ v -ℤ s *ℤ w) ≡ pos 2097152 *ℤ (pos 1048576 *ℤ u -ℤ (t *ℤ r -ℤ s *ℤ q)) +ℤ (t *ℤ (pos 2097152 *ℤ r -ℤ v) -ℤ s *ℤ (pos 2097152 *ℤ q -ℤ w))
re_error = ring 7 (λ t s r q v w u. number (pos 2199023255552) ⊗ u ⊖ (t ⊗ v ⊖ s ⊗ w) ≗ number (pos 2097152) ⊗ (number (pos 1048576) ⊗ u ⊖ (t ⊗ r ⊖ s ⊗ q)) ⊕ (t ⊗ (number (pos 2097152) ⊗ r ⊖ v) ⊖ s ⊗ (number (pos 2097152) ⊗ q ⊖ w))) refl

im_error : (t s r q v w u : ℤ) → pos 2199023255552 *ℤ u -ℤ (t *ℤ w +ℤ s *ℤ v) ≡ pos 2097152 *ℤ (pos 1048576 *ℤ u -ℤ (t *ℤ q +ℤ s *ℤ r)) +ℤ (t *ℤ (pos 2097152 *ℤ q -ℤ w) +ℤ s *ℤ (pos 2097152 *ℤ r -ℤ v))
im_error = ring 7 (λ t s r q v w u. number (pos 2199023255552) ⊗ u ⊖ (t ⊗ w ⊕ s ⊗ v) ≗ number (pos 2097152) ⊗ (number (pos 1048576) ⊗ u ⊖ (t ⊗ q ⊕ s ⊗ r)) ⊕ (t ⊗ (number (pos 2097152) ⊗ q ⊖ w) ⊕ s ⊗ (number (pos 2097152) ⊗ r ⊖ v))) refl

error_small : (e a b : ℤ) (t s : ℕ) → unsigned_abs e ≤ 524288 → unsigned_abs a ≤ t * 2097152 → unsigned_abs b ≤ s * 2097152 → t + s ≤ 1482910 → unsigned_abs (pos 2097152 *ℤ e +ℤ (a -ℤ b)) ≤ 2199023255552 * 2
error_small e a b t s first second third sum = omega (arith, ints)

error_small_im : (e a b : ℤ) (t s : ℕ) → unsigned_abs e ≤ 524288 → unsigned_abs a ≤ t * 2097152 → unsigned_abs b ≤ s * 2097152 → t + s ≤ 1482910 → unsigned_abs (pos 2097152 *ℤ e +ℤ (a +ℤ b)) ≤ 2199023255552 * 2
error_small_im e a b t s first second third sum = omega (arith, ints)

in_training : (r v : Cx) → IsWithin 2097152 (minus (multiple (pos 2097152) r) v) → IsWithin (2199023255552 * 2) (minus (multiple (pos 2199023255552) r) (times unturned v))
unfolding times
in_training r v near = record { re = before_near r.re v.re v.im near.re; im = before_near_im r.im v.im v.re near.im }

turned_near : (turn r v : Cx) → unsigned_abs turn.re + unsigned_abs turn.im ≤ 1482910 → IsWithin 2097152 (minus (multiple (pos 2097152) r) v) → IsWithin (2199023255552 * 2) (minus (multiple (pos 2199023255552) (scaled_product turn r)) (times turn v))
unfolding scaled_product times
turned_near turn r v small near =
    let t = turn.re in
    let s = turn.im in
    let a = pos 2097152 *ℤ r.re -ℤ v.re in
    let b = pos 2097152 *ℤ r.im -ℤ v.im in
    let p = t *ℤ r.re -ℤ s *ℤ r.im in
    let q = t *ℤ r.im +ℤ s *ℤ r.re in
    record {
      re = rw (re_error t s r.re r.im v.re v.im (half_up 20 p))
          (error_small (pos 1048576 *ℤ half_up 20 p -ℤ p) (t *ℤ a) (s *ℤ b) (unsigned_abs t) (unsigned_abs s) (rounding_within p 524288 (omega arith)) (unsigned_abs-product t a (unsigned_abs t) 2097152 (omega arith) near.re) (unsigned_abs-product s b (unsigned_abs s) 2097152 (omega arith) near.im) small);
      im = rw (im_error t s r.re r.im v.re v.im (half_up 20 q))
          (error_small_im (pos 1048576 *ℤ half_up 20 q -ℤ q) (t *ℤ b) (s *ℤ a) (unsigned_abs t) (unsigned_abs s) (rounding_within q 524288 (omega arith)) (unsigned_abs-product t b (unsigned_abs t) 2097152 (omega arith) near.im) (unsigned_abs-product s a (unsigned_abs s) 2097152 (omega arith) near.re) small);
    }

-- ---- the samples from a start on, once turned
module _ (start step : ℕ) (samples : List Sample) (frame : SentFrame) (holds : HoldsFrame start samples frame) where
  abbrev turned : List Sample
  turned = turned_samples start step samples

  long_turned : length turned ≡ length samples
  unfolding turned_samples
  long_turned = length-map-range_with_len (turned_at start step samples) 0 (length samples)

  whole : start + samples_of frame ≤ length samples
  whole =
      let count = ap length holds in
      omega (arith, count, long_sent frame, length-take (samples_of frame) (drop start samples), length-drop start samples)

  sample_there : (time : ℕ) → time < samples_of frame → sample_at samples (start + time) ≡ sample_at (sent_of frame) time
  sample_there time lt = sym (part_at samples start (samples_of frame) time lt) ∙ ap (λ list. sample_at list time) holds

  turned_there : (time : ℕ) → time < samples_of frame → sample_at (drop start turned) time ≡ turned_at start step samples (start + time)
  unfolding turned_samples
  turned_there time lt =
      let inside : start + time < length samples = omega (arith, whole) in
      get_or-drop start turned time _ ∙ sample-map (turned_at start step samples) (length samples) (start + time) inside

  -- in the training fields, and in symbols
  as_it_was : (time : ℕ) → time < 320 → time < samples_of frame → sample_at (drop start turned) time ≡ sample_at (sent_of frame) time
  as_it_was time before lt =
      let place : start + time < start + 320 = omega arith in
      turned_there time lt
      ∙ ap (λ b. cond b (sample_at samples (start + time)) (turned_sample (turn_of_symbol step ((start + time - (start + 320)) / 80)) (sample_at samples (start + time)))) (lt-ltb (start + time) (start + 320) place)
      ∙ sample_there time lt

  with_turn : (time : ℕ) → 320 ≤ time → time < samples_of frame → sample_at (drop start turned) time ≡ turned_sample (turn_of_symbol step ((time - 320) / 80)) (sample_at (sent_of frame) time)
  with_turn time behind lt =
      let place : start + 320 ≤ start + time = omega arith in
      let symbol : (start + time - (start + 320)) / 80 ≡ (time - 320) / 80 = omega arith in
      turned_there time lt
      ∙ ap (λ b. cond b (sample_at samples (start + time)) (turned_sample (turn_of_symbol step ((start + time - (start + 320)) / 80)) (sample_at samples (start + time)))) (le-ltb (start + time) (start + 320) place)
      ∙ ap (λ n. turned_sample (turn_of_symbol step n) (sample_at samples (start + time))) symbol
      ∙ ap (turned_sample (turn_of_symbol step ((time - 320) / 80))) (sample_there time lt)

  near_time : (time : ℕ) → time < samples_of frame → IsWithin (2 ^ 41 * 2) (minus (multiple (pos (2 ^ 41)) (pair_at (drop start turned) time)) (turned_wave (turn_of_symbol step) frame time))
  near_time time lt =
      let v = entry (plain_of frame) time in
      let r = pair_at (sent_of frame) time in
      elim (cases_lt time 320) [
        | inl before ↦
            let near = near_sent frame time lt in
            rw (as_it_was time before lt, turn_before (turn_of_symbol step) time before) (in_training r v near)
        | inr behind ↦
            let turn = turn_of_symbol step ((time - 320) / 80) in
            let sample = with_turn time behind lt ∙ not_held step time frame behind lt in
            rw (sample, turn_behind (turn_of_symbol step) time ((time - 320) / 80) behind refl) (turned_near turn r v (turn-sum _) (near_sent frame time lt))
      ]

  pub turned_begins : BeginsNearTurned 2 (turn_of_symbol step) (drop start turned) frame
  turned_begins = record { whole = omega (arith, whole, long_turned, length-drop start turned); near = near_time }

pub turned_is_near : TurnedIsNear
turned_is_near start step samples frame holds = turned_begins start step samples frame holds

pub turned_is_read : TurnedIsRead
turned_is_read start step samples frame is holds =
    turned_frame_is_read 2 (turn_of_symbol step) (drop start (turned_samples start step samples)) frame is (phase_least frame.rate) (λ n sent. table_turn (step * (n + 1))) (turned_begins start step samples frame holds)

pub turned_is_there : TurnedIsThere
turned_is_there step samples frame is holds =
    turned_frame_is_there 2 (turn_of_symbol step) (turned_samples frame.start step samples) frame is (phase_least frame.rate) (λ n sent. table_turn (step * (n + 1))) (turned_begins frame.start step samples frame holds)
