-- The frame at the start of an echoed frame: no other, and no fault.
use Rattle.std.proofs.Common.{◌≡◌, ℕ, List, subst, arith}
use Rattle.std.specs.Prelude.{Result, Ok, Err}
use Rattle.std.specs.Result.{IfOk}
use Rattle.fixed_complex.specs.declared.Sample.{Sample}
use Rattle.frame_findings.specs.declared.Heard.{Heard}
use Rattle.frame_reader.specs.Decisions.{plain_decisions}
use Rattle.frame_starts.specs.declared.AtFault.{AtFault}
use Rattle.frame_starts.specs.Laws.{OneFrameAt}
use Rattle.frame_starts.specs.Starts.{IsFrameAt}
use Rattle.frames_in_echoes.specs.Laws.{EchoedFrameIsThere}
use Rattle.frames_in_noise.specs.Laws.{heard_of}
use Rattle.symbols_in_echoes.specs.Laws.{echo_bound_of}
use Rattle.echo_link.specs.Echoed.{EchoedFrame, HasEchoed}

pub echoed_there : EchoedFrameIsThere → (capture : List Sample) (echoed : EchoedFrame) → HasEchoed capture echoed
    → IsFrameAt plain_decisions capture echoed.frame.start (Ok (heard_of echoed.frame))
echoed_there there capture echoed has =
    there (echo_bound_of echoed.frame.rate) echoed.taps capture echoed.frame has.echo has.may_be_sent (omega arith) has.near

at_start : EchoedFrameIsThere → (capture : List Sample) (start : ℕ) (echoed : EchoedFrame) → HasEchoed capture echoed → echoed.frame.start ≡ start
    → IsFrameAt plain_decisions capture start (Ok (heard_of echoed.frame))
at_start there capture start echoed has at =
    subst (λ n. IsFrameAt plain_decisions capture n (Ok (heard_of echoed.frame))) at (echoed_there there capture echoed has)

-- what is received at the start is just this frame
pub heard_in_echoes : OneFrameAt → EchoedFrameIsThere → (capture : List Sample) (start : ℕ) (result : Result Heard AtFault) (echoed : EchoedFrame) → HasEchoed capture echoed
    → echoed.frame.start ≡ start → IfOk result (λ frame. IsFrameAt plain_decisions capture start (Ok frame)) → IfOk result (λ frame. frame ≡ heard_of echoed.frame)
heard_in_echoes one there capture start (Err fault) echoed has at is = tt
heard_in_echoes one there capture start (Ok frame) echoed has at is =
    let same = one plain_decisions capture start (Ok frame) (Ok (heard_of echoed.frame)) is (at_start there capture start echoed has at) in cc

-- and no fault comes
pub no_fault_in_echoes : OneFrameAt → EchoedFrameIsThere → (capture : List Sample) (start : ℕ) (fault : AtFault) (echoed : EchoedFrame) → HasEchoed capture echoed
    → echoed.frame.start ≡ start → IsFrameAt plain_decisions capture start (Err fault) → ⊥
no_fault_in_echoes one there capture start fault echoed has at is =
    let same = one plain_decisions capture start (Err fault) (Ok (heard_of echoed.frame)) is (at_start there capture start echoed has at) in cc
