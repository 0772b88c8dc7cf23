-- What words and the bytes of the input come to (own).
use Rattle.std.specs.Prelude.{ℕ, ◌≡◌, ◌⊎◌, List, Option, IfSome}
use Rattle.capture_files.specs.Captures.{samples_in}
use Rattle.frame_fields.specs.Frames.{sent_bytes}
use Rattle.frame_reader.specs.Decisions.{decisions_by, plain_decisions}
use Rattle.frames_turned.specs.Deciding.{phase_decided}
use Rattle.report_lines.specs.declared.Refusal.{Refusal}
use Rattle.report_lines.specs.declared.Status.{Status}
use Rattle.report_lines.specs.declared.Status.TheVariants as status
use Rattle.report_lines.specs.Refusals.{status_of}
use Rattle.command_words.specs.declared.Command.{Command}
use Rattle.command_words.specs.declared.Request.{Request}
use Rattle.command_words.specs.declared.Request.TheVariants.{Bits, Decode, DecodeSoft, Send, SendList, Receive, ReceiveAt, ReceivePhase, Noise, Echo, Rotate, Inspect, Drill, Show}
use Rattle.command_words.specs.declared.Stage.TheVariants.{Kept}
use Rattle.command_words.specs.Asking.{AreRefusedFor, AskFor, command_of}
use Rattle.frame_stages.specs.Stages.{stage_text_of}
use Rattle.command_answers.specs.Answers.{echoed_bytes, noisy_bytes, rotated_bytes}
use Rattle.command_answers.specs.Drilling.{HasDrilled}
use Rattle.command_answers.specs.Receiving.{HasReceived, HasReports}
use Rattle.command_answers.specs.Starting.{HasFrameAt}
use Rattle.command_answers.specs.Decoding.{DecodeOutcome, SoftOutcome}
use Rattle.command_answers.specs.Listing.{ListOutcome}
use Rattle.command_answers.specs.InOrder.{Answers, Outcome, Refuses, Writes}
use Rattle.command_answers.specs.Inputs.{OfInput, ReadsToEnd, accepted, reads, taken}

-- the outcome of a request and what was read
abbrev pub AnswerOf : Request → List ℕ → Outcome → Type 0
AnswerOf (Bits rate seed) read outcome = outcome ≡ Writes (stage_text_of Kept rate seed read)
AnswerOf (Decode rate octets) read outcome = DecodeOutcome rate octets read outcome
AnswerOf (DecodeSoft rate octets) read outcome = SoftOutcome rate octets read outcome
AnswerOf (Send rate seed) read outcome = outcome ≡ Writes (sent_bytes rate seed read)
AnswerOf (Noise items) read outcome = outcome ≡ Writes (noisy_bytes items read)
AnswerOf SendList read outcome = ListOutcome read outcome
AnswerOf (Echo pairs) read outcome = outcome ≡ Writes (echoed_bytes pairs read)
AnswerOf (Rotate start step) read outcome = outcome ≡ Writes (rotated_bytes start step read)
AnswerOf Receive read outcome = HasReceived (samples_in read) outcome
AnswerOf (ReceiveAt start) read outcome =
    HasFrameAt plain_decisions start (samples_in read) outcome
AnswerOf (ReceivePhase start) read outcome =
    HasFrameAt (decisions_by phase_decided) start (samples_in read) outcome
AnswerOf Inspect read outcome = Answers (HasReports (samples_in read)) outcome
AnswerOf (Drill count) read outcome = Answers (HasDrilled count) outcome
AnswerOf (Show stage rate seed) read outcome = outcome ≡ Writes (stage_text_of stage rate seed read)

-- the outcome of a request and the bytes of the input
abbrev pub RequestOutcome : Request → List ℕ → Outcome → Type 0
RequestOutcome request bytes outcome =
    OfInput (reads (command_of request)) (AnswerOf request) bytes outcome

-- words and the bytes of the input have an outcome: that of what the words ask for, or what the words
-- are refused for
pub data HasOutcome (words : List (List ℕ)) (bytes : List ℕ) (outcome : Outcome) : Type 0 where
  of_request : (request : Request) → AskFor words request → RequestOutcome request bytes outcome
      → HasOutcome words bytes outcome
  of_words : (refusal : Refusal) → AreRefusedFor words refusal → outcome ≡ Refuses refusal
      → HasOutcome words bytes outcome

-- the same of the bytes that a source tells
abbrev pub IsOutcome : List (List ℕ) → Option (List ℕ) → Outcome → Type 0
IsOutcome words left outcome = IfSome left (λ bytes. HasOutcome words bytes outcome)

-- the words are refused for this cause, whatever the input holds
abbrev pub RefusesWords : List (List ℕ) → Refusal → Type 0
RefusesWords words refusal =
    (status_of refusal ≡ status.BadWords)
    × ((bytes : List ℕ) → HasOutcome words bytes (Refuses refusal))

-- the words are refused
abbrev pub AreRefused : List (List ℕ) → Type 0
AreRefused words = (refusal : Refusal) × RefusesWords words refusal

-- the most bytes of input that a command accepts, and the most that it takes
abbrev pub most_accepted : Command → ℕ
most_accepted command = accepted (reads command)

abbrev pub most_taken : Command → ℕ
most_taken command = taken (reads command)

-- a command reads its input to the end
abbrev pub ReadsInput : Command → Type 0
ReadsInput command = ReadsToEnd (reads command)

-- the statuses that may follow an outcome: its own, a fault of a port, or want of memory
abbrev pub MayFollow : Outcome → Status → Type 0
MayFollow (Writes bytes) ended =
    (ended ≡ status.Ok) ⊎ (ended ≡ status.ReadFault) ⊎ (ended ≡ status.WriteFault)
    ⊎ (ended ≡ status.NoMemory)
MayFollow (Refuses refusal) ended =
    (ended ≡ status_of refusal) ⊎ (ended ≡ status.ReadFault) ⊎ (ended ≡ status.NoMemory)
