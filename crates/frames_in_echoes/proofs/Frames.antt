-- Samples that begin within half the noise bound of an echoed frame are read as it was sent.
use Rattle.std.proofs.Common.{ℕ, zero, suc, ◌≤◌, List, drop, length-drop, refl, subst, sym, arith}
use Rattle.std.specs.Prelude.{Ok}
use Rattle.fixed_complex.specs.declared.Cx.{Cx}
use Rattle.fixed_complex.specs.declared.Sample.{Sample}
use Rattle.rate_table.specs.declared.Rate.{Rate}
use Rattle.symbol_builder.specs.Carriers.{symbol_bin}
use Rattle.frame_search.specs.Match.{part}
use Rattle.echo_taps.specs.Echoes.{echo_of}
use Rattle.echo_taps.specs.Taps.{IsEcho}
use Rattle.echo_channels.specs.Channels.{IsNearEchoedBody}
use Rattle.symbols_in_echoes.specs.Laws.{echo_bound_of}
use Rattle.symbols_in_echoes.proofs.Bounds.{echo_bound_least, echo_bound_most}
use Rattle.symbols_in_echoes.proofs.Symbols.{decided_in_echoes}
use Rattle.frame_lists.specs.Near.{SentFrame, sent_of}
use Rattle.frame_reader.specs.Decisions.{body_of, decisions_of, estimate_from, plain_decisions}
use Rattle.exact_decisions.specs.Laws.{sent_header}
use Rattle.exact_decisions.specs.Sent.{AreAsSent, code_of_symbol, rate_of_symbol}
use Rattle.exact_decisions.proofs.Codes.{code_bits, code_long, same_points}
use Rattle.exact_decisions.proofs.Heard.{sent_is_heard}
use Rattle.frame_starts.specs.Starts.{IsFrameAt, heard}
use Rattle.frames_in_noise.specs.Laws.{heard_of}
use Rattle.frames_in_echoes.specs.Laws.{EchoIsRead, EchoIsThere, EchoedFrameIsRead, EchoedFrameIsThere}
use Rattle.frames_in_echoes.specs.Waves.{BeginsNearEchoed}
use Rattle.frames_in_echoes.proofs.Parts.{near_first, near_second, near_symbol}
use Rattle.frames_in_echoes.proofs.Sent.{echo_is_near}

-- SIGNAL withstands echoes within the bound of each rate
bound_of_symbol : (rate : Rate) (bound n : ℕ) → bound ≤ echo_bound_of rate → bound ≤ echo_bound_of (rate_of_symbol rate n)
bound_of_symbol rate bound zero least = omega (arith, least, echo_bound_most rate)
bound_of_symbol rate bound (suc m) least = least

as_sent : (bound : ℕ) (taps : List Cx) (samples : List Sample) (frame : SentFrame) → IsEcho taps → bound ≤ echo_bound_of frame.rate → BeginsNearEchoed bound taps samples frame → AreAsSent frame.rate frame.seed frame.psdu (plain_decisions samples)
unfolding plain_decisions decisions_of estimate_from
as_sent bound taps samples frame echo least begins n sent =
    let body = subst (λ points. IsNearEchoedBody bound taps (symbol_bin points n) (body_of samples n)) (same_points frame.rate frame.seed frame.psdu n) (near_symbol frame bound taps samples begins n sent) in
    decided_in_echoes (rate_of_symbol frame.rate n) bound n taps (code_of_symbol frame.rate frame.seed frame.psdu n) (part samples 192 64) (part samples 256 64) (body_of samples n)
    echo (bound_of_symbol frame.rate bound n least) (code_bits frame.rate frame.seed frame.psdu n) (code_long frame.rate frame.seed frame.psdu n sent)
    (near_first frame bound taps samples begins) (near_second frame bound taps samples begins) body

pub echoed_frame_is_read : EchoedFrameIsRead
echoed_frame_is_read bound taps samples frame echo is least begins =
    sent_is_heard frame.rate frame.seed frame.psdu (plain_decisions samples) is.seed is.long is.octets (as_sent bound taps samples frame echo least begins)

pub echo_is_read : EchoIsRead
echo_is_read taps frame echo is =
    echoed_frame_is_read 2 taps (echo_of taps (sent_of frame)) frame echo is (omega (arith, echo_bound_least frame.rate)) (echo_is_near taps frame echo)

-- ---- so the frame at its start is the one that was sent
pub echoed_frame_is_there : EchoedFrameIsThere
echoed_frame_is_there bound taps capture frame echo is least begins =
    let read = echoed_frame_is_read bound taps (drop frame.start capture) frame echo is least begins in
    let long = length-drop frame.start capture in
    heard (sent_header frame.rate frame.psdu) (omega (arith, begins.whole, long), read.0) (heard_of frame) refl
    (record { whole = omega (arith, begins.whole, long); rate = refl; octets = refl; field = read.1 }) refl

pub echo_is_there : EchoIsThere
echo_is_there taps frame echo is start =
    let capture = echo_of taps (sent_of frame) in
    let begins : BeginsNearEchoed 2 taps (drop frame.start capture) frame = subst (λ n. BeginsNearEchoed 2 taps (drop n capture) frame) (sym start) (echo_is_near taps frame echo) in
    subst (λ n. IsFrameAt plain_decisions capture n (Ok (heard_of frame))) start (echoed_frame_is_there 2 taps capture frame echo is (omega (arith, echo_bound_least frame.rate)) begins)
