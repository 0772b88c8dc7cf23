-- Samples that begin within the noise bound of a frame are read as it was sent.
use Rattle.std.proofs.Common.{ℕ, ◌≤◌, List, subst}
use Rattle.fixed_complex.specs.declared.Sample.{Sample}
use Rattle.symbol_builder.specs.Carriers.{symbol_bin}
use Rattle.frame_search.specs.Match.{part}
use Rattle.symbols_in_noise.specs.Laws.{IsNearBody}
use Rattle.symbols_in_noise.proofs.Symbols.{symbol_back}
use Rattle.starts_in_noise.proofs.Template.{preamble_matches}
use Rattle.frame_lists.specs.Near.{SentFrame}
use Rattle.frame_reader.specs.Decisions.{body_of, decisions_of, estimate_from, plain_decisions}
use Rattle.exact_decisions.specs.Sent.{AreAsSent, code_of_symbol, rate_of_symbol}
use Rattle.exact_decisions.proofs.Heard.{sent_is_heard}
use Rattle.frames_in_noise.specs.Laws.{BeginsNear, FrameIsRead, noise_bound_of}
use Rattle.exact_decisions.proofs.Codes.{code_bits, code_long, same_points}
use Rattle.frames_in_noise.proofs.Codes.{bound_of_symbol}
use Rattle.frames_in_noise.proofs.Parts.{near_first, near_preamble, near_second, near_symbol}

pub as_sent : (bound : ℕ) (samples : List Sample) (frame : SentFrame) → bound ≤ noise_bound_of frame → BeginsNear bound samples frame → AreAsSent frame.rate frame.seed frame.psdu (plain_decisions samples)
unfolding plain_decisions decisions_of estimate_from
as_sent bound samples frame least begins n sent =
    let body = subst (λ points. IsNearBody bound (symbol_bin points n) (body_of samples n)) (same_points frame.rate frame.seed frame.psdu n) (near_symbol frame bound samples begins n sent) in
    symbol_back (rate_of_symbol frame.rate n) bound n (code_of_symbol frame.rate frame.seed frame.psdu n) (part samples 192 64) (part samples 256 64) (body_of samples n)
    (bound_of_symbol frame.rate bound n least) (code_bits frame.rate frame.seed frame.psdu n) (code_long frame.rate frame.seed frame.psdu n sent)
    (near_first frame bound samples begins) (near_second frame bound samples begins) body

pub frame_is_read : FrameIsRead
frame_is_read bound samples frame is least begins =
    let heard = sent_is_heard frame.rate frame.seed frame.psdu (plain_decisions samples) is.seed is.long is.octets (as_sent bound samples frame least begins) in
    let most : bound ≤ 64 = bound_of_symbol frame.rate bound 0 least in
    (record { like = preamble_matches bound (part samples 0 320) most (near_preamble frame bound samples begins); says = heard.0 }, heard.1)
