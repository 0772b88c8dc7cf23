-- The outcome of a capture with turns, and of the turned samples of a frame.
use Rattle.std.proofs.Common.{◌≡◌, ℕ, ◌+◌, ◌*◌, ◌%◌, ◌<◌, ◌≤◌, List, length, take, drop, map, refl, ap, sym, subst, ◌∙◌, arith}
use Rattle.std.specs.Prelude.{Ok}
use Rattle.std.proofs.lemmas.List.{take_all}
use Rattle.std.proofs.lemmas.List.FromFn.{length-map-range_with_len}
use Rattle.capture_files.proofs.Bytes.{length-bytes_of_samples, samples_back}
use Rattle.capture_files.specs.Captures.{bytes_of_samples, samples_in}
use Rattle.fixed_complex.specs.declared.Sample.{Sample}
use Rattle.frame_fields.specs.Frames.{sent_frame}
use Rattle.frame_fields.proofs.FramePlaces.{length-frame}
use Rattle.frame_lists.specs.Near.{SentFrame, samples_of}
use Rattle.frame_reader.specs.Decisions.{decisions_by}
use Rattle.frame_starts.specs.Starts.{IsFrameAt}
use Rattle.frames_in_noise.specs.Laws.{heard_of}
use Rattle.frames_turned.specs.Deciding.{phase_decided}
use Rattle.frames_turned.specs.Laws.{HoldsFrame, TurnedFrameIsThere, TurnedIsThere, bound_of}
use Rattle.plain_waves.specs.Bodies.{sent_body}
use Rattle.rate_table.proofs.SymbolCounts.{few_symbols}
use Rattle.symbol_turns.specs.Turning.{turned_at, turned_samples}
use Rattle.symbol_turns.proofs.Turned.{turned_are_samples}
use Rattle.command_words.specs.declared.Request.TheVariants.{ReceivePhase, Rotate}
use Rattle.command_answers.specs.InEchoes.{bytes_of_frame}
use Rattle.command_answers.specs.InTurns.{IsCaptureInTurns, IsTurnOfFrame, TurnedFrame}
use Rattle.command_answers.specs.InOrder.{passed}
use Rattle.command_answers.specs.Laws.{RotateGivesItsFrame, TurnedCaptureGivesItsFrame}
use Rattle.command_answers.specs.Outcome.{of_request}
use Rattle.command_answers.proofs.ListsSent.{SentAreWithin, are_samples}

pub turned_outcome : TurnedFrameIsThere → TurnedCaptureGivesItsFrame
turned_outcome there words bytes turned h =
    let frame : SentFrame = turned.frame in
    let stands = h.stands in
    of_request (ReceivePhase frame.start) (record { said = h.asked; carried = tt })
    (passed (λ long. omega (arith, long, h.short)) (passed (λ torn. torn h.even)
    (Ok (heard_of frame), there (bound_of frame) turned.turns (samples_in bytes) frame stands.is (omega arith) stands.turned stands.near, refl)))

-- the length of turned samples
long_turned : (start step : ℕ) (samples : List Sample) → length (turned_samples start step samples) ≡ length samples
unfolding turned_samples
long_turned start step samples = length-map-range_with_len (turned_at start step samples) 0 (length samples)

pub rotate_outcome : SentAreWithin → TurnedIsThere → RotateGivesItsFrame
rotate_outcome within there words back step frame h =
    let sent : List Sample = sent_frame frame.rate frame.seed frame.psdu in
    let bytes : List ℕ = bytes_of_frame frame in
    let count : length sent ≡ samples_of frame = length-frame sent_body frame.rate frame.seed frame.psdu in
    let size : length bytes ≡ 4 * length sent = length-bytes_of_samples sent in
    let few : length sent ≤ 109680 = omega (arith, count, few_symbols frame.rate (length frame.psdu) h.may_be_sent.long.1) in
    let of_16_bits = are_samples sent (within frame.rate frame.seed frame.psdu) in
    let again : samples_in bytes ≡ sent = samples_back sent of_16_bits in
    let turned : List Sample = turned_samples 0 step (samples_in bytes) in
    let turned_size : length (bytes_of_samples turned) ≡ 4 * length turned = length-bytes_of_samples turned in
    let turned_long : length turned ≡ length sent = long_turned 0 step (samples_in bytes) ∙ ap (λ (s : List Sample). length s) again in
    let turned_again : samples_in (bytes_of_samples turned) ≡ turned = samples_back turned (turned_are_samples 0 step (samples_in bytes) (rw again of_16_bits)) in
    let holds : HoldsFrame 0 sent frame = take_all (samples_of frame) sent (omega (arith, count)) in
    let there_it_is : IsFrameAt (decisions_by phase_decided) (turned_samples 0 step sent) 0 (Ok (heard_of frame)) =
    subst (λ n. IsFrameAt (decisions_by phase_decided) (turned_samples n step sent) n (Ok (heard_of frame))) h.first
    (there step sent frame h.may_be_sent (subst (λ n. HoldsFrame n sent frame) (sym h.first) holds)) in
    let frame_is : IsFrameAt (decisions_by phase_decided) (samples_in (bytes_of_samples turned)) 0 (Ok (heard_of frame)) =
    subst (λ (s : List Sample). IsFrameAt (decisions_by phase_decided) s 0 (Ok (heard_of frame))) (sym (turned_again ∙ ap (turned_samples 0 step) again)) there_it_is in
    let even : length bytes % 4 ≡ 0 = omega (arith, size) in
    let turned_even : length (bytes_of_samples turned) % 4 ≡ 0 = omega (arith, turned_size) in (
      of_request (Rotate 0 step) (record { said = h.asked; carried = tt }) (passed (λ over. omega (arith, over, size, few)) (passed (λ torn. torn even) refl)),
      of_request (ReceivePhase 0) (record { said = h.received; carried = tt })
          (passed (λ over. omega (arith, over, turned_size, turned_long, few)) (passed (λ torn. torn turned_even) (Ok (heard_of frame), frame_is, refl))),
    )
