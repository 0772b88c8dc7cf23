-- What a command reads, and what of the input alone is refused (own).
use Rattle.std.specs.Prelude.{ℕ, ◌+◌, ◌%◌, ◌≡◌, ◌<◌, ◌≤◌, ◌⊎◌, List, [], length, Option, Some, None}
use Rattle.capture_files.specs.Captures.{IsTorn, bytes_of_samples}
use Rattle.capture_files.specs.declared.CaptureFault.{CaptureFault}
use Rattle.capture_files.specs.declared.CaptureFault.TheVariants as capture
use Rattle.fixed_complex.specs.Samples.{AreSamples}
use Rattle.modem_ports.specs.Counts.{Rose}
use Rattle.modem_ports.specs.Limits.{most_input}
use Rattle.modem_ports.specs.declared.whole.ReadAllFault.{ReadAllFault}
use Rattle.modem_ports.specs.declared.whole.ReadAllFault.TheVariants as fault
use Rattle.modem_ports.specs.Told.{GivesAtMost, GivesExactly, IsAtEnd}
use Rattle.rate_table.specs.Symbols.{IsLength, most_octets}
use Rattle.report_lines.specs.declared.Refusal.{Refusal}
use Rattle.report_lines.specs.declared.Refusal.TheVariants.{EmptyPsdu, LongPsdu, TornCapture, LongCapture, NoMemory, ReadFault}
use Rattle.report_lines.specs.Refusals.{answering, step_of, writing}
use Rattle.command_words.specs.declared.Command.{Command}
use Rattle.command_words.specs.declared.Command.TheVariants.{Bits, Decode, DecodeSoft, Send, SendList, Receive, ReceiveAt, ReceivePhase, Noise, Echo, Rotate, Inspect, Drill, Show}
use Rattle.command_answers.specs.declared.reading.Input.{Input}
use Rattle.command_answers.specs.declared.reading.Input.TheVariants as input
use Rattle.command_answers.specs.declared.reading.Reading.{Reading}
use Rattle.command_answers.specs.declared.reading.Reading.TheVariants.{Nothing, Psdu, Bytes, Capture}
use Rattle.command_answers.specs.InOrder.{Outcome, Refuses, Unless}

-- what a command reads
abbrev pub reads : Command → Reading
reads (Bits rate seed) = Psdu
reads (Decode rate octets) = Bytes
reads (DecodeSoft rate octets) = Bytes
reads (Send rate seed) = Psdu
reads Noise = Capture
reads SendList = Bytes
reads Echo = Capture
reads (Rotate start step) = Capture
reads Receive = Capture
reads (ReceiveAt start) = Capture
reads (ReceivePhase start) = Capture
reads Inspect = Capture
reads (Drill count) = Nothing
reads (Show stage rate seed) = Psdu

-- the most bytes of input that are accepted
abbrev pub accepted : Reading → ℕ
accepted Nothing = 0
accepted Psdu = most_octets
accepted Bytes = most_input
accepted Capture = most_input

-- the most bytes that are taken: the last one of these is refused
abbrev pub taken : Reading → ℕ
taken Nothing = 0
taken Psdu = most_octets + 1
taken Bytes = most_input + 1
taken Capture = most_input + 1

-- the input is read to its end
abbrev pub ReadsToEnd : Reading → Type 0
ReadsToEnd Nothing = ⊥
ReadsToEnd Psdu = Unit {0}
ReadsToEnd Bytes = Unit {0}
ReadsToEnd Capture = Unit {0}

-- what is read of an input
abbrev pub IsInput : Reading → List ℕ → List ℕ → Type 0
IsInput Nothing read bytes = read ≡ []
IsInput Psdu read bytes = read ≡ bytes
IsInput Bytes read bytes = read ≡ bytes
IsInput Capture read bytes = read ≡ bytes

-- the bytes of an input that was read
abbrev pub bytes_of_input : Input → List ℕ
bytes_of_input (input.Bytes bytes) = bytes.items
bytes_of_input (input.Samples samples) = bytes_of_samples samples.items

-- an input has the form that is read: a capture is samples, all else bytes
abbrev pub HasForm : Reading → Input → Type 0
HasForm Capture (input.Bytes bytes) = ⊥
HasForm Capture (input.Samples samples) = AreSamples samples.items
HasForm Nothing (input.Bytes bytes) = Unit {0}
HasForm Nothing (input.Samples samples) = ⊥
HasForm Psdu (input.Bytes bytes) = Unit {0}
HasForm Psdu (input.Samples samples) = ⊥
HasForm Bytes (input.Bytes bytes) = Unit {0}
HasForm Bytes (input.Samples samples) = ⊥

-- what is read is accepted
abbrev pub IsAccepted : Reading → List ℕ → Type 0
IsAccepted Nothing read = Unit {0}
IsAccepted Psdu read = IsLength (length read)
IsAccepted Bytes read = length read ≤ most_input
IsAccepted Capture read = (length read ≤ most_input) × (length read % 4 ≡ 0)

-- the outcome of an input, in the order of its refusals; Rest is that of what is read
abbrev pub OfInput : Reading → (List ℕ → Outcome → Type 0) → List ℕ → Outcome → Type 0
OfInput Nothing Rest bytes = Rest []
OfInput Psdu Rest bytes =
    Unless (length bytes ≡ 0) EmptyPsdu (Unless (most_octets < length bytes) LongPsdu (Rest bytes))
OfInput Bytes Rest bytes = Unless (most_input < length bytes) LongCapture (Rest bytes)
OfInput Capture Rest bytes =
    Unless (most_input < length bytes) LongCapture
    (Unless (IsTorn (length bytes)) (TornCapture (length bytes)) (Rest bytes))

-- an input is refused, whatever is made of what is read
abbrev pub RefusesInput : Reading → Refusal → List ℕ → Type 0
RefusesInput kind refusal bytes = OfInput kind (λ read outcome. ⊥) bytes (Refuses refusal)

-- the refusal of an input that was not read whole; `long` is that of a long one
abbrev pub refusal_of_fault : Refusal → ReadAllFault → Refusal
refusal_of_fault long fault.Long = long
refusal_of_fault long fault.Failed = ReadFault
refusal_of_fault long (fault.NoMemory want) = NoMemory

-- .. and that of a capture
abbrev pub refusal_of_capture_fault : CaptureFault → Refusal
refusal_of_capture_fault (capture.Torn bytes) = TornCapture bytes
refusal_of_capture_fault capture.Long = LongCapture
refusal_of_capture_fault capture.Failed = ReadFault
refusal_of_capture_fault (capture.NoMemory want) = NoMemory

-- a run came past its reading: it isn't refused, or where the answer is found or written
abbrev pub IsPast : Option Refusal → Type 0
IsPast None = Unit {0}
IsPast (Some refusal) = (step_of refusal ≡ answering) ⊎ (step_of refusal ≡ writing)

-- what a call that reads leaves of the source, where it is refused for this cause or for none
pub record Reads (kind : Reading) (before after : Option (List ℕ)) (faults faults' : ℕ)
    (refused : Option Refusal) : Type 0 where
  pub end : IsPast refused → ReadsToEnd kind → IsAtEnd after
  pub at_most : GivesAtMost (taken kind) before after
  pub to_limit : refused ≡ Some LongPsdu → GivesExactly (most_octets + 1) before after
  pub to_input_limit : refused ≡ Some LongCapture → GivesExactly (most_input + 1) before after
  pub fault : refused ≡ Some ReadFault → Rose faults faults'
  pub fault_within : refused ≡ Some ReadFault → GivesAtMost (accepted kind) before after
