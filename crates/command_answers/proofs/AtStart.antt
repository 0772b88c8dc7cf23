-- What the faults of the frame at a start come to.
use Rattle.std.proofs.Common.{◌≡◌, ◌⊎◌, inl, inr, ℕ, List, refl, ap}
use Rattle.std.specs.Prelude.{Err}
use Rattle.fixed_complex.specs.declared.Sample.{Sample}
use Rattle.frame_starts.specs.declared.AtFault.{AtFault}
use Rattle.frame_starts.specs.declared.AtFault.TheVariants as fault
use Rattle.frame_starts.specs.Starts.{IsFrameAt}
use Rattle.rate_table.specs.declared.Rate.{Rate}
use Rattle.report_lines.specs.declared.Refusal.{Refusal}
use Rattle.report_lines.specs.declared.Refusal.TheVariants.{BadHeader, CutAt, NoMemory}
use Rattle.report_lines.specs.Refusals.{answering, step_of}
use Rattle.command_answers.specs.InOrder.{Refuses}
use Rattle.command_answers.specs.Starting.{HasFrameAt, outcome_at}

pub fault_refused : (decisions : List Sample → Rate → ℕ → List ℕ) (start : ℕ) (capture : List Sample) (why : AtFault) (refusal : Refusal) → Refuses refusal ≡ outcome_at (Err why)
    → ((at have need : ℕ) → why ≡ fault.CutAt at have need → IsFrameAt decisions capture start (Err (fault.CutAt at have need)))
    → ((at : ℕ) → why ≡ fault.BadHeader at → IsFrameAt decisions capture start (Err (fault.BadHeader at)))
    → (refusal ≡ NoMemory) ⊎ ((step_of refusal ≡ answering) × HasFrameAt decisions start capture (Refuses refusal))
fault_refused decisions start capture (fault.CutAt at have need) refusal is cut bad =
    let same : refusal ≡ CutAt at have need = cc in inr (ap step_of same, (Err (fault.CutAt at have need), cut at have need refl, is))
fault_refused decisions start capture (fault.BadHeader at) refusal is cut bad =
    let same : refusal ≡ BadHeader at = cc in inr (ap step_of same, (Err (fault.BadHeader at), bad at refl, is))
fault_refused decisions start capture (fault.NoMemory want) refusal is cut bad = let same : refusal ≡ NoMemory = cc in inl same
