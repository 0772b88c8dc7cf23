-- What a refusal says of the outcome and of the status.
use Rattle.std.proofs.Common.{◌≡◌, ◌⊎◌, inl, inr, ℕ, List, [], Option, Some, None, refl, ap, ◌∙◌, subst, arith}
use Rattle.std.specs.Option.{IfSome}
use Rattle.modem_ports.specs.Counts.{Rose}
use Rattle.modem_ports.specs.Told.{Gives}
use Rattle.report_lines.proofs.ByKind.{kinds, of_asking, of_words as by_status}
use Rattle.report_lines.specs.declared.Refusal.{Refusal}
use Rattle.report_lines.specs.declared.Refusal.TheVariants.{NoMemory, ReadFault, WriteFault}
use Rattle.report_lines.specs.declared.Status.{Status}
use Rattle.report_lines.specs.declared.Status.TheVariants as status
use Rattle.report_lines.specs.Refusals.{IsDecided, asking, status_of, step_of}
use Rattle.command_words.specs.declared.Command.{Command}
use Rattle.command_words.proofs.Reading.{one_command}
use Rattle.command_words.proofs.Asked.{nothing_asked, refused_at}
use Rattle.command_words.specs.declared.Command.TheVariants as command
use Rattle.command_words.specs.declared.Request.{Request}
use Rattle.command_words.specs.declared.Request.TheVariants.{Bits, Decode, DecodeSoft, Send, SendList, Receive, ReceiveAt, ReceivePhase, Noise, Echo, Rotate, Inspect, Drill, Show}
use Rattle.command_words.specs.Asking.{AreRefusedFor, AskFor, AskForNothing, command_of}
use Rattle.command_words.specs.Grammar.{Say}
use Rattle.command_answers.proofs.Outcomes.{words_are_refused}
use Rattle.command_answers.specs.declared.reading.Reading.{Reading}
use Rattle.command_answers.specs.declared.reading.Reading.TheVariants.{Nothing}
use Rattle.command_answers.specs.InOrder.{Outcome, Refuses, Writes}
use Rattle.command_answers.specs.Inputs.{Reads, reads}
use Rattle.command_answers.specs.Laws.{OneOutcome}
use Rattle.command_answers.specs.Outcome.{AreRefused, HasOutcome, IsOutcome, MayFollow, RefusesWords, of_request, of_words}
use Rattle.modem_runs.specs.Report.{TakesAnswer, TakesAnswerPrefix}

-- a refusal with the status of bad words is theirs
pub refuses_words : (words : List (List ℕ)) (refusal : Refusal) → (step_of refusal ≡ asking → AreRefusedFor words refusal) → status_of refusal ≡ status.BadWords → RefusesWords words refusal
refuses_words words refusal why is = (is, λ bytes. of_words refusal (why (by_status refusal is)) refl)

-- words that are refused ask for nothing
pub refused_ask_nothing : (words : List (List ℕ)) → AreRefused words → AskForNothing words
refused_ask_nothing words refused = let why = words_are_refused words refused in nothing_asked words why.0 why.1

-- what a call that reads leaves of the source, for any command that the words say
pub reads_of_said : (words : List (List ℕ)) (request : Request) (command : Command) (kind : Reading) (before after : Option (List ℕ)) (faults faults' : ℕ) (refused : Option Refusal)
    → kind ≡ reads (command_of request) → AskFor words request → Say words command → Reads kind before after faults faults' refused → Reads (reads command) before after faults faults' refused
reads_of_said words request command kind before after faults faults' refused is asks says has =
    subst (λ k. Reads k before after faults faults' refused) (is ∙ ap reads (one_command words (command_of request) command asks.said says)) has

-- words that say `receive` ask for it
is_receive : (request : Request) → command_of request ≡ command.Receive → request ≡ Receive
is_receive (Bits rate seed) is = cc
is_receive (Decode rate octets) is = cc
is_receive (DecodeSoft rate octets) is = cc
is_receive (Send rate seed) is = cc
is_receive SendList is = cc
is_receive Receive is = refl
is_receive (Noise items) is = cc
is_receive (Echo pairs) is = cc
is_receive (Rotate start step) is = cc
is_receive (ReceiveAt start) is = cc
is_receive (ReceivePhase start) is = cc
is_receive Inspect is = cc
is_receive (Drill count) is = cc
is_receive (Show stage rate seed) is = cc

pub receive_asked : (words : List (List ℕ)) (request : Request) → AskFor words request → Say words command.Receive → request ≡ Receive
receive_asked words request asks says = is_receive request (one_command words (command_of request) command.Receive asks.said says)

-- what is asked for by words that say a drill reads nothing
pub drill_reads_nothing : (words : List (List ℕ)) (request : Request) (count : ℕ) → AskFor words request → Say words (command.Drill count) → reads (command_of request) ≡ Nothing
drill_reads_nothing words request count asks says = ap reads (one_command words (command_of request) (command.Drill count) asks.said says)

-- the status of want of memory is that of no other refusal
pub is_no_memory : (refusal : Refusal) → status_of refusal ≡ status.NoMemory → refusal ≡ NoMemory
is_no_memory refusal is =
    elim (kinds refusal) [
      | inl decided ↦ absurd (rw is at decided)
      | inr (inl other) ↦ let same = ap status_of other in cc
      | inr (inr (inl other)) ↦ let same = ap status_of other in cc
      | inr (inr (inr want)) ↦ want
    ]

-- the count of a port that never fails is always 0, and never rose
pub never_rose : ¬ Rose 0 0
never_rose rose = elim rose [ inl more ↦ omega (arith, more) | inr end ↦ omega (arith, end) ]

-- a source that isn't read gave nothing
gives_nothing : (left : Option (List ℕ)) → Gives left [] left
gives_nothing None = tt
gives_nothing (Some bytes) = refl

-- .. which is what is read for words that are refused
pub reads_nothing : (words : List (List ℕ)) (refusal : Refusal) (kind : Reading) (left : Option (List ℕ)) (faults : ℕ) → AreRefusedFor words refusal → Reads kind left left faults faults (Some refusal)
reads_nothing words refusal kind left faults why =
    let at = refused_at words refusal why in
    record {
      end = elim [ inl answers ↦ cc | inr writes ↦ cc ];
      at_most = ([], omega arith, gives_nothing left);
      to_limit = λ is. cc;
      to_input_limit = λ is. cc;
      fault = λ is. cc;
      fault_within = λ is. cc;
    }

-- .. and what was read for an answer that was not written whole
pub reads_unwritten : (kind : Reading) (before after : Option (List ℕ)) (faults faults' : ℕ) → Reads kind before after faults faults' None → Reads kind before after faults faults' (Some WriteFault)
reads_unwritten kind before after faults faults' has = record {
  end = λ past to_end. has.end tt to_end;
  at_most = has.at_most;
  to_limit = λ is. cc;
  to_input_limit = λ is. cc;
  fault = λ is. cc;
  fault_within = λ is. cc;
}

-- the status of bad words comes exactly where they are refused
pub bad_words : (words : List (List ℕ)) (refusal : Refusal) → (step_of refusal ≡ asking → AreRefusedFor words refusal) → (AskForNothing words → step_of refusal ≡ asking)
    → (status_of refusal ≡ status.BadWords → AreRefused words) × (AreRefused words → status_of refusal ≡ status.BadWords)
bad_words words refusal why if = (λ is. (refusal, refuses_words words refusal why is), λ refused. of_asking refusal (if (refused_ask_nothing words refused)))

-- the statuses of a failed read and of want of memory may follow any outcome
read_fault_follows : (outcome : Outcome) → MayFollow outcome status.ReadFault
read_fault_follows (Writes bytes) = inr (inl refl)
read_fault_follows (Refuses refusal) = inr (inl refl)

no_memory_follows : (outcome : Outcome) → MayFollow outcome status.NoMemory
no_memory_follows (Writes bytes) = inr (inr (inr refl))
no_memory_follows (Refuses refusal) = inr (inr refl)

module _ (one : OneOutcome) where
  -- no outcome writes and refuses
  apart : (words : List (List ℕ)) (bytes answer : List ℕ) (refusal : Refusal) → HasOutcome words bytes (Writes answer) → HasOutcome words bytes (Refuses refusal) → ⊥
  apart words bytes answer refusal writes refuses = let same = one words bytes (Writes answer) (Refuses refusal) writes refuses in cc

  -- the same refusal, the same status
  same_status : (words : List (List ℕ)) (bytes : List ℕ) (a b : Refusal) → HasOutcome words bytes (Refuses a) → HasOutcome words bytes (Refuses b) → status_of a ≡ status_of b
  same_status words bytes a b first other =
      let same = one words bytes (Refuses a) (Refuses b) first other in
      let is : a ≡ b = cc in
      ap status_of is

  -- the status of the outcome's refusal follows it
  own_follows : (words : List (List ℕ)) (bytes : List ℕ) (refusal : Refusal) (outcome : Outcome) → HasOutcome words bytes (Refuses refusal) → HasOutcome words bytes outcome
      → MayFollow outcome (status_of refusal)
  own_follows words bytes refusal outcome is has =
      let same : outcome ≡ Refuses refusal = one words bytes outcome (Refuses refusal) has is in rw same (inl refl)

  -- a failed write follows an outcome that writes
  write_fault_follows : (words : List (List ℕ)) (bytes answer : List ℕ) (outcome : Outcome) → HasOutcome words bytes (Writes answer) → HasOutcome words bytes outcome
      → MayFollow outcome status.WriteFault
  write_fault_follows words bytes answer outcome is has =
      let same : outcome ≡ Writes answer = one words bytes outcome (Writes answer) has is in rw same (inr (inr (inl refl)))

  -- a refused run of an outcome that writes wants memory, unless a port failed
  pub refused_answers : (words : List (List ℕ)) (left : Option (List ℕ)) (refusal : Refusal) (Read Written : Type 0)
      → (IsDecided (status_of refusal) → IsOutcome words left (Refuses refusal)) → (refusal ≡ ReadFault → Read) → (refusal ≡ WriteFault → Written)
      → ¬ Read → ¬ Written
      → IfSome left (λ bytes. (answer : List ℕ) → HasOutcome words bytes (Writes answer) → (status_of refusal ≡ status.Ok) ⊎ (status_of refusal ≡ status.NoMemory))
  refused_answers words None refusal Read Written decided reads writes unread unwritten = tt
  refused_answers words (Some bytes) refusal Read Written decided reads writes unread unwritten = λ answer has.
      elim (kinds refusal) [
        | inl certain ↦ absurd (apart words bytes answer refusal has (decided certain))
        | inr (inl is) ↦ absurd (unread (reads is))
        | inr (inr (inl is)) ↦ absurd (unwritten (writes is))
        | inr (inr (inr is)) ↦ inr (ap status_of is)
      ]

  -- a refused run of an outcome that refuses has its status or wants memory, unless the source failed
  pub refused_refuses : (words : List (List ℕ)) (left : Option (List ℕ)) (refusal : Refusal) (Read : Type 0) (before after : Option (List ℕ))
      → (IsDecided (status_of refusal) → IsOutcome words left (Refuses refusal)) → (refusal ≡ ReadFault → Read)
      → (refusal ≡ WriteFault → TakesAnswerPrefix words left before after) → ¬ Read
      → IfSome left (λ bytes. (other : Refusal) → HasOutcome words bytes (Refuses other) → (status_of refusal ≡ status_of other) ⊎ (status_of refusal ≡ status.NoMemory))
  refused_refuses words None refusal Read before after decided reads writes unread = tt
  refused_refuses words (Some bytes) refusal Read before after decided reads writes unread = λ other has.
      elim (kinds refusal) [
        | inl certain ↦ inl (same_status words bytes refusal other (decided certain) has)
        | inr (inl is) ↦ absurd (unread (reads is))
        | inr (inr (inl is)) ↦ let written = writes is in absurd (apart words bytes written.0 other written.1 has)
        | inr (inr (inr is)) ↦ inr (ap status_of is)
      ]

  -- the status of a refused run follows the outcome
  pub refused_follows : (words : List (List ℕ)) (left : Option (List ℕ)) (refusal : Refusal) (before after : Option (List ℕ))
      → (IsDecided (status_of refusal) → IsOutcome words left (Refuses refusal)) → (refusal ≡ WriteFault → TakesAnswerPrefix words left before after)
      → IfSome left (λ bytes. (outcome : Outcome) → HasOutcome words bytes outcome → MayFollow outcome (status_of refusal))
  refused_follows words None refusal before after decided writes = tt
  refused_follows words (Some bytes) refusal before after decided writes = λ outcome has.
      elim (kinds refusal) [
        | inl certain ↦ own_follows words bytes refusal outcome (decided certain) has
        | inr (inl is) ↦ rw is (read_fault_follows outcome)
        | inr (inr (inl is)) ↦ let written = writes is in rw is (write_fault_follows words bytes written.0 outcome written.1 has)
        | inr (inr (inr is)) ↦ rw is (no_memory_follows outcome)
      ]

  -- an answered run has no outcome that refuses
  pub answered_refuses : (words : List (List ℕ)) (left : Option (List ℕ)) (before after : Option (List ℕ)) (ended : Status) → TakesAnswer words left before after
      → IfSome left (λ bytes. (refusal : Refusal) → HasOutcome words bytes (Refuses refusal) → (ended ≡ status_of refusal) ⊎ (ended ≡ status.NoMemory))
  answered_refuses words None before after ended written = tt
  answered_refuses words (Some bytes) before after ended written = λ refusal has. absurd (apart words bytes written.0 refusal written.1 has)

  -- an answered run's status follows the outcome
  pub answered_follows : (words : List (List ℕ)) (left : Option (List ℕ)) (before after : Option (List ℕ)) → TakesAnswer words left before after
      → IfSome left (λ bytes. (outcome : Outcome) → HasOutcome words bytes outcome → MayFollow outcome status.Ok)
  answered_follows words None before after written = tt
  answered_follows words (Some bytes) before after written = λ outcome has.
      let same : outcome ≡ Writes written.0 = one words bytes outcome (Writes written.0) has written.1 in rw same (inl refl)

  -- where words and input decide a refusal that isn't of the words, it is the outcome's, of a command that the words say
  pub where_refused : (words : List (List ℕ)) (left : Option (List ℕ)) (refusal other : Refusal) (Given : Type 0)
      → (IsDecided (status_of refusal) → IsOutcome words left (Refuses refusal)) → IsDecided (status_of refusal) → (step_of other ≡ asking → ⊥)
      → (refusal ≡ other → (command : Command) → Say words command → Given) → IfSome left (λ bytes. HasOutcome words bytes (Refuses other) → Given)
  where_refused words None refusal other Given decided is no_word given = tt
  where_refused words (Some bytes) refusal other Given decided is no_word given = λ has.
      let same = one words bytes (Refuses refusal) (Refuses other) (decided is) has in
      let refusal_is : refusal ≡ other = cc in
      elim has [
        | of_request request asks of_it ↦ given refusal_is (command_of request) asks.said
        | of_words cause why is_it ↦ absurd (no_word (let same_cause : other ≡ cause = cc in rw same_cause (refused_at words cause why)))
      ]
