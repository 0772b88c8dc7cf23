-- What a run leaves of its two sinks (own).
use Rattle.std.specs.Prelude.{ℕ, ◌≡◌, ◌⊎◌, List, Option, IfSome}
use Rattle.modem_ports.specs.Told.{Takes, TakesPrefix}
use Rattle.report_lines.specs.declared.Refusal.{Refusal}
use Rattle.report_lines.specs.declared.Status.{Status}
use Rattle.report_lines.specs.declared.Status.TheVariants as status
use Rattle.report_lines.specs.Refusals.{IsDecided, report_line, status_of}
use Rattle.command_answers.specs.InOrder.{Refuses, Writes}
use Rattle.command_answers.specs.Outcome.{HasOutcome, IsOutcome, RefusesWords}

-- the outcome of words and told bytes is that bytes are written, and a sink took all of them
abbrev pub TakesAnswer : List (List ℕ) → Option (List ℕ) → Option (List ℕ) → Option (List ℕ)
    → Type 0
TakesAnswer words left before after =
    IfSome left (λ bytes. (answer : List ℕ)
    × HasOutcome words bytes (Writes answer) × Takes before answer after)

-- the same, and the sink took a prefix of them
abbrev pub TakesAnswerPrefix : List (List ℕ) → Option (List ℕ) → Option (List ℕ) → Option (List ℕ)
    → Type 0
TakesAnswerPrefix words left before after =
    IfSome left (λ bytes. (answer : List ℕ)
    × HasOutcome words bytes (Writes answer) × TakesPrefix before answer after)

-- a sink took the report line of a refusal, or a prefix of it where its count rose
abbrev pub TakesReport : Refusal → Option (List ℕ) → Option (List ℕ) → Type 0 → Type 0
TakesReport refusal before after Risen =
    Takes before (report_line refusal) after
    ⊎ (Risen × TakesPrefix before (report_line refusal) after)

-- a refusal with this status was reported: that of the words where they are refused, and that of words
-- and input where these decide the status
pub record IsReported (words : List (List ℕ)) (left : Option (List ℕ)) (ended : Status)
    (before after : Option (List ℕ)) (Risen : Type 0) : Type 0 where
  pub refusal : Refusal
  pub has_status : status_of refusal ≡ ended
  pub of_words : ended ≡ status.BadWords → RefusesWords words refusal
  pub of_input : IsDecided ended → IsOutcome words left (Refuses refusal)
  pub is_taken : TakesReport refusal before after Risen

-- a run ended well or for want of memory, and where it ended well the sink took exactly these bytes
pub record IsWrittenUnlessNoMemory (ended : Status) (answer : List ℕ)
    (before after : Option (List ℕ)) : Type 0 where
  pub well : (ended ≡ status.Ok) ⊎ (ended ≡ status.NoMemory)
  pub taken : ended ≡ status.Ok → Takes before answer after
