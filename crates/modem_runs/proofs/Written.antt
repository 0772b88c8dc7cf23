-- What the sink of a run took.
use Rattle.std.proofs.Common.{◌≡◌, ◌⊎◌, inl, inr, ℕ, List, Option, Some, None, Result, Ok, Err, subst}
use Rattle.std.specs.Option.{IfSome}
use Rattle.std.specs.Result.{OnErr, OnOk}
use Rattle.modem_ports.specs.Told.{Takes, TakesPrefix}
use Rattle.report_lines.specs.declared.Status.{Status}
use Rattle.report_lines.specs.declared.Status.TheVariants as status
use Rattle.command_answers.specs.InOrder.{Writes}
use Rattle.command_answers.specs.Laws.{OneOutcome}
use Rattle.command_answers.specs.Outcome.{HasOutcome, IsOutcome}
use Rattle.modem_runs.specs.Report.{IsWrittenUnlessNoMemory, TakesAnswer, TakesAnswerPrefix}

-- all bytes of the outcome, or a prefix of them
pub takes_answer : (words : List (List ℕ)) (left : Option (List ℕ)) (answer : List ℕ) (before after : Option (List ℕ)) → IsOutcome words left (Writes answer)
    → Takes before answer after → TakesAnswer words left before after
takes_answer words None answer before after has takes = tt
takes_answer words (Some bytes) answer before after has takes = (answer, has, takes)

pub takes_answer_prefix : (words : List (List ℕ)) (left : Option (List ℕ)) (answer : List ℕ) (before after : Option (List ℕ)) → IsOutcome words left (Writes answer)
    → TakesPrefix before answer after → TakesAnswerPrefix words left before after
takes_answer_prefix words None answer before after has takes = tt
takes_answer_prefix words (Some bytes) answer before after has takes = (answer, has, takes)

-- what a write left: all, or a part where the sink failed
pub whole_or_part : {T E : Type 0} (result : Result T E) (Whole Failed Part : Type 0) → OnOk result Whole → OnErr result Failed → OnErr result Part → Whole ⊎ (Failed × Part)
whole_or_part (Ok x) Whole Failed Part whole failed part = inl whole
whole_or_part (Err e) Whole Failed Part whole failed part = inr (failed, part)

-- where what is asked says what is written, a run that answered wrote it
pub written_where_answered : {X : Type 0} → OneOutcome → (words : List (List ℕ)) (Asked : List ℕ → X → Type 0) (answer_to : X → List ℕ)
    → ((bytes : List ℕ) (x : X) → Asked bytes x → HasOutcome words bytes (Writes (answer_to x)))
    → (left : Option (List ℕ)) (before after : Option (List ℕ)) (ended : Status) → ended ≡ status.Ok → TakesAnswer words left before after
    → IfSome left (λ bytes. (x : X) → Asked bytes x → IsWrittenUnlessNoMemory ended (answer_to x) before after)
written_where_answered one words Asked answer_to gives None before after ended is taken = tt
written_where_answered one words Asked answer_to gives (Some bytes) before after ended is taken = λ x h.
    let same = one words bytes (Writes taken.0) (Writes (answer_to x)) taken.1 (gives bytes x h) in
    let answer : taken.0 ≡ answer_to x = cc in
    record { well = inl is; taken = λ well. subst (λ list. Takes before list after) answer taken.2 }

-- .. and a run that was refused wanted memory
pub written_where_refused : {X : Type 0} → (words : List (List ℕ)) (Asked : List ℕ → X → Type 0) (answer_to : X → List ℕ)
    → ((bytes : List ℕ) (x : X) → Asked bytes x → HasOutcome words bytes (Writes (answer_to x)))
    → (left : Option (List ℕ)) (before after : Option (List ℕ)) (ended : Status) → (ended ≡ status.Ok → ⊥)
    → IfSome left (λ bytes. (answer : List ℕ) → HasOutcome words bytes (Writes answer) → (ended ≡ status.Ok) ⊎ (ended ≡ status.NoMemory))
    → IfSome left (λ bytes. (x : X) → Asked bytes x → IsWrittenUnlessNoMemory ended (answer_to x) before after)
written_where_refused words Asked answer_to gives None before after ended refused answers = tt
written_where_refused words Asked answer_to gives (Some bytes) before after ended refused answers = λ x h. record {
  well = answers (answer_to x) (gives bytes x h);
  taken = λ well. absurd (refused well);
}
