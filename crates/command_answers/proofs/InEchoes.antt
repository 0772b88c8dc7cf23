-- The outcome of a capture with an echoed frame, and of the echo of a frame's samples.
use Rattle.std.proofs.Common.{◌≡◌, ℕ, ◌+◌, ◌*◌, ◌%◌, ◌<◌, ◌≤◌, List, length, refl, ap, sym, subst, ◌∙◌, arith}
use Rattle.std.specs.Prelude.{Ok}
use Rattle.capture_files.proofs.Bytes.{length-bytes_of_samples, samples_back}
use Rattle.capture_files.specs.Captures.{bytes_of_samples, samples_in}
use Rattle.echo_link.specs.Echoed.{EchoedFrame}
use Rattle.echo_link.proofs.There.{echoed_there}
use Rattle.echo_taps.specs.Echoes.{echo_of}
use Rattle.echo_taps.specs.Laws.{EchoIsLong, EchoIsSamples, PairsAreEcho}
use Rattle.echo_taps.specs.Taps.{IsEcho}
use Rattle.fixed_complex.specs.declared.Cx.{Cx}
use Rattle.fixed_complex.specs.declared.Sample.{Sample}
use Rattle.frame_fields.specs.Frames.{sent_frame}
use Rattle.frame_lists.specs.Near.{SentFrame}
use Rattle.frame_reader.specs.Decisions.{plain_decisions}
use Rattle.frame_starts.specs.Starts.{IsFrameAt}
use Rattle.frames_in_echoes.specs.Laws.{EchoIsThere, EchoedFrameIsThere}
use Rattle.frames_in_noise.specs.Laws.{heard_of}
use Rattle.rate_table.proofs.SymbolCounts.{few_symbols}
use Rattle.frame_fields.proofs.FramePlaces.{length-frame}
use Rattle.plain_waves.specs.Bodies.{sent_body}
use Rattle.command_words.specs.declared.Request.TheVariants.{Echo, ReceiveAt}
use Rattle.command_answers.specs.InEchoes.{IsCaptureInEchoes, IsEchoOfFrame, bytes_of_frame}
use Rattle.command_answers.specs.InOrder.{passed}
use Rattle.command_answers.specs.Laws.{EchoGivesItsFrame, EchoedCaptureGivesItsFrame}
use Rattle.command_answers.specs.Outcome.{of_request}
use Rattle.command_answers.proofs.ListsSent.{SentAreWithin, are_samples}

pub echoed_outcome : EchoedFrameIsThere → EchoedCaptureGivesItsFrame
echoed_outcome there words bytes echoed h =
    of_request (ReceiveAt echoed.frame.start) (record { said = h.asked; carried = tt })
    (passed (λ long. omega (arith, long, h.short)) (passed (λ torn. torn h.even) (Ok (heard_of echoed.frame), echoed_there there (samples_in bytes) echoed h.there, refl)))

pub echo_outcome : SentAreWithin → PairsAreEcho → EchoIsLong → EchoIsSamples → EchoIsThere → EchoGivesItsFrame
echo_outcome within says long of_16_bits there words back echoed h =
    let frame : SentFrame = echoed.frame in
    let taps : List Cx = echoed.taps in
    let sent : List Sample = sent_frame frame.rate frame.seed frame.psdu in
    let bytes : List ℕ = bytes_of_frame frame in
    let size : length bytes ≡ 4 * length sent = length-bytes_of_samples sent in
    let few : length sent ≤ 109680 =
    omega (arith, length-frame sent_body frame.rate frame.seed frame.psdu, few_symbols frame.rate (length frame.psdu) h.may_be_sent.long.1) in
    let again : samples_in bytes ≡ sent = samples_back sent (are_samples sent (within frame.rate frame.seed frame.psdu)) in
    let echo : List Sample = echo_of taps (samples_in bytes) in
    let echo_size : length (bytes_of_samples echo) ≡ 4 * length echo = length-bytes_of_samples echo in
    let echo_long : length echo ≡ length sent + 7 = long taps (samples_in bytes) ∙ ap (λ (s : List Sample). length s + 7) again in
    let echo_again : samples_in (bytes_of_samples echo) ≡ echo = samples_back echo (of_16_bits taps (samples_in bytes)) in
    let is_echo : IsEcho taps = says h.asked.carried.0 taps h.asked.carried.2 in
    let frame_is : IsFrameAt plain_decisions (samples_in (bytes_of_samples echo)) 0 (Ok (heard_of frame)) =
    subst (λ (s : List Sample). IsFrameAt plain_decisions s 0 (Ok (heard_of frame))) (sym (echo_again ∙ ap (echo_of taps) again))
    (there taps frame is_echo h.may_be_sent h.first) in
    let even : length bytes % 4 ≡ 0 = omega (arith, size) in
    let echo_even : length (bytes_of_samples echo) % 4 ≡ 0 = omega (arith, echo_size) in (
      of_request (Echo taps) h.asked (passed (λ over. omega (arith, over, size, few)) (passed (λ torn. torn even) refl)),
      of_request (ReceiveAt 0) (record { said = h.received; carried = tt })
          (passed (λ over. omega (arith, over, echo_size, echo_long, few)) (passed (λ torn. torn echo_even) (Ok (heard_of frame), frame_is, refl))),
    )
