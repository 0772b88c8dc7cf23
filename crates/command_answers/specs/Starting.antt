-- What the frame at a start comes to (own).
use Rattle.std.specs.Prelude.{ℕ, ◌≡◌, List, Result, Ok, Err}
use Rattle.finding_lines.specs.Lines.{frame_line}
use Rattle.fixed_complex.specs.declared.Sample.{Sample}
use Rattle.frame_findings.specs.declared.Heard.{Heard}
use Rattle.frame_starts.specs.declared.AtFault.{AtFault}
use Rattle.frame_starts.specs.declared.AtFault.TheVariants as fault
use Rattle.frame_starts.specs.Starts.{IsFrameAt}
use Rattle.rate_table.specs.declared.Rate.{Rate}
use Rattle.report_lines.specs.declared.Refusal.TheVariants.{BadHeader, CutAt, NoMemory}
use Rattle.command_answers.specs.InOrder.{Outcome, Refuses, Writes}

-- the outcome of a frame that is heard, whose line is written, or of a fault
abbrev pub outcome_at : Result Heard AtFault → Outcome
outcome_at (Ok heard) = Writes (frame_line heard)
outcome_at (Err (fault.CutAt start have need)) = Refuses (CutAt start have need)
outcome_at (Err (fault.BadHeader start)) = Refuses (BadHeader start)
outcome_at (Err (fault.NoMemory want)) = Refuses NoMemory

-- an outcome is what comes of the frame at a start, by decisions of frames that begin with the first of some samples
abbrev pub HasFrameAt : (List Sample → Rate → ℕ → List ℕ) → ℕ → List Sample → Outcome → Type 0
HasFrameAt decisions start capture outcome =
    (answer : Result Heard AtFault) × IsFrameAt decisions capture start answer
    × (outcome ≡ outcome_at answer)
