-- A frame with turns at a start is the answer there.
use Rattle.std.proofs.Common.{◌≡◌, ℕ, List, drop, refl, subst, sym, ap, arith}
use Rattle.std.specs.Prelude.{Result, Ok, Err, IfOk, IfErr}
use Rattle.fixed_complex.specs.declared.Cx.{Cx}
use Rattle.fixed_complex.specs.declared.Sample.{Sample}
use Rattle.frame_findings.specs.declared.Heard.{Heard}
use Rattle.frame_lists.specs.Near.{SentFrame}
use Rattle.frame_reader.specs.Decisions.{decisions_by}
use Rattle.frame_starts.proofs.Starts.{one_frame_at}
use Rattle.frame_starts.specs.declared.AtFault.{AtFault}
use Rattle.frame_starts.specs.declared.AtFault.TheVariants.{BadHeader, CutAt, NoMemory}
use Rattle.frame_starts.specs.Starts.{IsFrameAt}
use Rattle.frames_in_noise.specs.Laws.{heard_of}
use Rattle.frames_turned.specs.Deciding.{phase_decided}
use Rattle.frames_turned.specs.Laws.{bound_of}
use Rattle.frames_turned.specs.Waves.{BeginsNearTurned}
use Rattle.frames_turned.proofs.Frames.{turned_frame_is_there}
use Rattle.phase_track.specs.Turned.{IsWant, StandsTurned}

-- what is read at a start, by phase decisions
abbrev IsThere : List Sample → ℕ → Result Heard AtFault → Type 0
IsThere = IsFrameAt (decisions_by phase_decided)

there : (turns : ℕ → Cx) (capture : List Sample) (start : ℕ) (frame : SentFrame) → StandsTurned turns capture start frame → IsThere capture start (Ok (heard_of frame))
there turns capture start frame stands =
    let near = subst (λ n. BeginsNearTurned (bound_of frame) turns (drop n capture) frame) (sym stands.there) stands.near in
    subst (λ n. IsThere capture n (Ok (heard_of frame))) stands.there (turned_frame_is_there (bound_of frame) turns capture frame stands.is (omega arith) stands.turned near)

-- the frame of an answer, and another one for a fault
abbrev heard_in : Heard → Result Heard AtFault → Heard
heard_in other (Ok heard) = heard
heard_in other (Err fault) = other

pub heard_there : (capture : List Sample) (start : ℕ) (result : Result Heard AtFault) → IfOk result (λ heard. IsThere capture start (Ok heard))
    → IfOk result (λ heard. (turns : ℕ → Cx) (frame : SentFrame) → StandsTurned turns capture start frame → heard ≡ heard_of frame)
heard_there capture start (Ok heard) is = λ turns frame stands. ap (heard_in heard) (one_frame_at (decisions_by phase_decided) capture start (Ok heard) (Ok (heard_of frame)) is (there turns capture start frame stands))
heard_there capture start (Err fault) is = tt

pub only_want : (capture : List Sample) (start : ℕ) (result : Result Heard AtFault)
    → ((at have need : ℕ) → result ≡ Err (CutAt at have need) → IsThere capture start (Err (CutAt at have need)))
    → ((at : ℕ) → result ≡ Err (BadHeader at) → IsThere capture start (Err (BadHeader at)))
    → IfErr result (λ fault. (turns : ℕ → Cx) (frame : SentFrame) → StandsTurned turns capture start frame → IsWant fault)
only_want capture start (Ok heard) cut bad = tt
only_want capture start (Err (CutAt at have need)) cut bad = λ turns frame stands.
    let same = one_frame_at (decisions_by phase_decided) capture start (Err (CutAt at have need)) (Ok (heard_of frame)) (cut at have need refl) (there turns capture start frame stands) in cc
only_want capture start (Err (BadHeader at)) cut bad = λ turns frame stands.
    let same = one_frame_at (decisions_by phase_decided) capture start (Err (BadHeader at)) (Ok (heard_of frame)) (bad at refl) (there turns capture start frame stands) in cc
only_want capture start (Err (NoMemory want)) cut bad = λ turns frame stands. tt
