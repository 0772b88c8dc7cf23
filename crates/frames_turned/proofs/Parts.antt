-- Bodies of a frame with turns bring carriers over these turns.
use Rattle.std.proofs.Common.{◌≡◌, ℕ, ◌+◌, ◌-◌, ◌*◌, ◌/◌, ◌%◌, ◌^◌, ◌<◌, ◌≤◌, List, length, drop, cond, refl, ap, sym, subst, ◌∙◌, arith, inl, inr, ℤ, pos, ◌-ℤ◌, ◌*ℤ◌, unsigned_abs}
use Rattle.std.proofs.lemmas.Bool.{cases_lt, le-ltb, lt-ltb}
use Rattle.std.proofs.lemmas.Int.{ints}
use Rattle.std.proofs.lemmas.List.{get_or_past, length-drop, length-take-le}
use Rattle.integer_laws.proofs.Order.{pos-le}
use Rattle.fixed_complex.specs.declared.Cx.{Cx}
use Rattle.fixed_complex.specs.declared.Sample.{Sample}
use Rattle.fixed_complex.specs.PairLists.{entry}
use Rattle.fixed_complex.specs.Pairs.{IsOfSize, IsWithin, minus, multiple, times}
use Rattle.fixed_complex.specs.Samples.{pair_at, sample_at}
use Rattle.fixed_complex.proofs.PairLists.{entry-map}
use Rattle.fixed_complex.proofs.PairSizes.{size-times, within-size}
use Rattle.rate_table.specs.Symbols.{symbol_count}
use Rattle.rate_table.specs.Table.{row_of}
use Rattle.carrier_bins.specs.Bins.{by_bin}
use Rattle.plain_waves.specs.Bodies.{all_times, plain_body}
use Rattle.plain_waves.proofs.Loads.{plain_of_size}
use Rattle.plain_waves.proofs.Places.{plain_body-local}
use Rattle.training_fields.specs.Training.{long_carrier}
use Rattle.frame_search.specs.Match.{part}
use Rattle.carrier_equaliser.specs.Nearness.{IsNearWave}
use Rattle.carrier_equaliser.specs.Received.{received}
use Rattle.carrier_equaliser.proofs.ComingBack.{received_are_near}
use Rattle.decided_axis.specs.Bodies.{FitABody}
use Rattle.decided_axis.specs.Channels.{AreCarried}
use Rattle.decided_axis.proofs.Fitting.{long_fit}
use Rattle.decided_axis.proofs.Waves.{carried_by_one}
use Rattle.symbols_turned.specs.Turns.{unturned}
use Rattle.symbols_turned.proofs.Turning.{turn_small}
use Rattle.frame_fields.specs.Frames.{frame_bin}
use Rattle.frame_lists.specs.Near.{SentFrame, plain_of, samples_of}
use Rattle.frame_reader.specs.Decisions.{body_of}
use Rattle.frames_in_noise.proofs.Parts.{long_at, part_at, symbol_at}
use Rattle.frames_turned.specs.Waves.{AreTurns, BeginsNearTurned, turn_in_frame, turned_wave}

-- ---- how large a body is
pub body_of_size : (sent : ℕ → Cx) → FitABody sent → (n : ℕ) → IsOfSize (50112 * 1048577) (plain_body sent n)
body_of_size sent fit n =
    let same : plain_body sent n ≡ plain_body (entry (all_times sent)) n = plain_body-local sent (entry (all_times sent)) (λ bin lt. sym (entry-map sent 64 bin lt)) n in
    rw same (plain_of_size (all_times sent) fit.fits n)

pub unturned_small : IsOfSize 1048578 unturned
unturned_small = record { size = pos-le (1048576 * 1048576) (1048578 * 1048578) (omega arith) }

-- ---- 64 samples near a body with a turn
part_of_16_bits : (r v : ℤ) (bound : ℕ) → bound ≤ 20 → unsigned_abs (pos 2199023255552 *ℤ r -ℤ v) ≤ 2199023255552 * bound → unsigned_abs v ≤ 1048578 * 52546290624 → unsigned_abs r ≤ 32768
part_of_16_bits r v bound most near small = omega (arith, ints)

module _ (bound : ℕ) (turn : Cx) (sent : ℕ → Cx) (samples : List Sample) (most : bound ≤ 20) (small : IsOfSize 1048578 turn) (fit : FitABody sent) (long : length samples ≡ 64)
    (near : (t : ℕ) → t < 64 → IsWithin (2 ^ 41 * bound) (minus (multiple (pos (2 ^ 41)) (pair_at samples t)) (times turn (plain_body sent t)))) where
  of_16_bits : (t : ℕ) → IsWithin 32768 (pair_at samples t)
  of_16_bits t =
      elim (cases_lt t 64) [
        | inl here ↦
            let part = near t here in
            let body = within-size (1048578 * (50112 * 1048577)) _ (size-times 1048578 (50112 * 1048577) turn (plain_body sent t) small (body_of_size sent fit t)) in
            let r = sample_at samples t in
            let v = times turn (plain_body sent t) in
            record {
              re = part_of_16_bits r.i v.re bound most (omega (arith, part.re)) (omega (arith, body.re));
              im = part_of_16_bits r.q v.im bound most (omega (arith, part.im)) (omega (arith, body.im));
            }
        | inr past ↦
            let behind : length samples ≤ t = omega (arith, long) in
            rw (get_or_past samples t (record { i = pos 0; q = pos 0 }) behind) (record { re = omega arith; im = omega arith })
      ]

  near_wave : IsNearWave 1048576 bound (λ t. times turn (plain_body sent t)) samples
  near_wave t lt = let part = near t lt in record { re = omega (arith, part.re); im = omega (arith, part.im) }

  pub carried : AreCarried 1048576 (91 * bound + 70) (λ _. turn) sent (received samples)
  carried = carried_by_one 1048576 bound 1048578 turn sent samples (received samples) (omega arith) small (omega arith) fit.within near_wave (received_are_near samples of_16_bits)

-- ---- the bodies of a frame
pub turn_before : (turns : ℕ → Cx) (time : ℕ) → time < 320 → turn_in_frame turns time ≡ unturned
turn_before turns time before = ap (λ b. cond b unturned (turns ((time - 320) / 80))) (lt-ltb time 320 before)

pub turn_behind : (turns : ℕ → Cx) (time n : ℕ) → 320 ≤ time → (time - 320) / 80 ≡ n → turn_in_frame turns time ≡ turns n
turn_behind turns time n behind symbol = ap (λ b. cond b unturned (turns ((time - 320) / 80))) (le-ltb time 320 behind) ∙ ap turns symbol

module _ (bound : ℕ) (turns : ℕ → Cx) (samples : List Sample) (frame : SentFrame) (begins : BeginsNearTurned bound turns samples frame) where
  near_body : (turn : Cx) (sent : ℕ → Cx) (from : ℕ) → from + 64 ≤ samples_of frame → ((t : ℕ) → t < 64 → turn_in_frame turns (from + t) ≡ turn) → ((t : ℕ) → t < 64 → entry (plain_of frame) (from + t) ≡ plain_body sent t)
      → (t : ℕ) → t < 64 → IsWithin (2 ^ 41 * bound) (minus (multiple (pos (2 ^ 41)) (pair_at (part samples from 64) t)) (times turn (plain_body sent t)))
  near_body turn sent from within turned same t lt =
      let wave : turned_wave turns frame (from + t) ≡ times turn (plain_body sent t) = ap (λ w. times w (entry (plain_of frame) (from + t))) (turned t lt) ∙ ap (times turn) (same t lt) in
      let near : IsWithin (2 ^ 41 * bound) (minus (multiple (pos (2 ^ 41)) (pair_at samples (from + t))) (times turn (plain_body sent t))) =
      subst (λ v. IsWithin (2 ^ 41 * bound) (minus (multiple (pos (2 ^ 41)) (pair_at samples (from + t))) v)) wave (begins.near (from + t) (omega arith)) in
      rw (part_at samples from 64 t lt) near

  long_part : (from : ℕ) → from + 64 ≤ samples_of frame → length (part samples from 64) ≡ 64
  long_part from within = length-take-le 64 (drop from samples) (omega (arith, begins.whole, length-drop from samples))

  long_carried : (from : ℕ) → bound ≤ 20 → 192 ≤ from → from ≤ 256 → from % 64 ≡ 0 → AreCarried 1048576 (91 * bound + 70) (λ _. unturned) (by_bin long_carrier) (received (part samples from 64))
  long_carried from most least last whole =
      carried bound unturned (by_bin long_carrier) (part samples from 64) most unturned_small long_fit (long_part from (omega arith))
      (near_body unturned (by_bin long_carrier) from (omega arith) (λ t lt. turn_before turns (from + t) (omega arith)) (λ t lt. long_at frame from t least last whole lt))

  pub first_carried : bound ≤ 20 → AreCarried 1048576 (91 * bound + 70) (λ _. unturned) (by_bin long_carrier) (received (part samples 192 64))
  first_carried most = long_carried 192 most (omega arith) (omega arith) refl

  pub second_carried : bound ≤ 20 → AreCarried 1048576 (91 * bound + 70) (λ _. unturned) (by_bin long_carrier) (received (part samples 256 64))
  second_carried most = long_carried 256 most (omega arith) (omega arith) refl

  pub symbol_carried : (n : ℕ) → bound ≤ 20 → AreTurns turns frame → n ≤ symbol_count (row_of frame.rate).field_bits (length frame.psdu) → FitABody (frame_bin frame.rate frame.seed frame.psdu n)
      → AreCarried 1048576 (91 * bound + 70) (λ _. turns n) (frame_bin frame.rate frame.seed frame.psdu n) (received (body_of samples n))
  symbol_carried n most are sent fit =
      let from = 336 + 80 * n in
      carried bound (turns n) (frame_bin frame.rate frame.seed frame.psdu n) (part samples from 64) most (turn_small (turns n) (are n sent)) fit (long_part from (omega arith))
      (near_body (turns n) (frame_bin frame.rate frame.seed frame.psdu n) from (omega arith) (λ t lt. turn_behind turns (from + t) n (omega arith) (omega arith)) (λ t lt. symbol_at frame n t sent lt))
