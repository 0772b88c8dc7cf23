-- What the laws of frames at starts state (own).
use Rattle.std.specs.Prelude.{◌≡◌, ℕ, List, Option, Result, Ok, All}
use Rattle.fixed_complex.specs.declared.Sample.{Sample}
use Rattle.rate_table.specs.declared.Rate.{Rate}
use Rattle.frame_reader.specs.Decisions.{plain_decisions}
use Rattle.frame_findings.specs.declared.Cut.{Cut}
use Rattle.frame_findings.specs.declared.Heard.{Heard}
use Rattle.frame_findings.specs.Walk.{AreFindings}
use Rattle.frame_starts.specs.declared.AtFault.{AtFault}
use Rattle.frame_starts.specs.Starts.{IsFrameAt}

-- the frame at a start comes to something
abbrev pub SomeFrameAt : Type 0
SomeFrameAt =
    (decisions : List Sample → Rate → ℕ → List ℕ) (capture : List Sample) (start : ℕ)
    → (answer : Result Heard AtFault) × IsFrameAt decisions capture start answer

-- and to nothing else
abbrev pub OneFrameAt : Type 0
OneFrameAt =
    (decisions : List Sample → Rate → ℕ → List ℕ) (capture : List Sample) (start : ℕ) (x y : Result Heard AtFault)
    → IsFrameAt decisions capture start x → IsFrameAt decisions capture start y → x ≡ y

-- each frame among the findings of a capture is the one at its start, by the plain decisions
abbrev pub FoundAreThere : Type 0
FoundAreThere =
    (capture : List Sample) (frames : List Heard) (end : Option Cut) → AreFindings capture frames end
    → All (λ (frame : Heard). IsFrameAt plain_decisions capture frame.start (Ok frame)) frames
