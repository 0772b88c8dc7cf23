-- Refusals, statuses and report lines (own).
use Rattle.std.specs.Prelude.{ℕ, List, [], ◌∷◌, ◌++◌, codes, decimal}
use Rattle.report_lines.specs.declared.Refusal.{Refusal}
use Rattle.report_lines.specs.declared.Refusal.TheVariants.{Words, EmptyPsdu, LongPsdu, TornCapture, LongCapture, BadBit, BitCount, NoFrame, CutFrame, ReadFault, WriteFault, NoMemory, BadScript, BadList, LongList, BadCost, CostCount, CutAt, BadHeader, BadTaps}
use Rattle.report_lines.specs.declared.Status.{Status}
use Rattle.report_lines.specs.declared.Status.TheVariants as status

-- the code with which the program ends
abbrev pub code_of_status : Status → ℕ
code_of_status status.Ok = 0
code_of_status status.BadWords = 2
code_of_status status.BadInput = 3
code_of_status status.NoFrame = 4
code_of_status status.CutFrame = 5
code_of_status status.ReadFault = 6
code_of_status status.WriteFault = 7
code_of_status status.NoMemory = 8

-- the status of a refusal
abbrev pub status_of : Refusal → Status
status_of Words = status.BadWords
status_of EmptyPsdu = status.BadInput
status_of LongPsdu = status.BadInput
status_of (TornCapture bytes) = status.BadInput
status_of LongCapture = status.BadInput
status_of (BadBit at) = status.BadInput
status_of (BitCount have need) = status.BadInput
status_of NoFrame = status.NoFrame
status_of (CutFrame start have need) = status.CutFrame
status_of ReadFault = status.ReadFault
status_of WriteFault = status.WriteFault
status_of NoMemory = status.NoMemory
status_of (BadScript at) = status.BadWords
status_of (BadList at) = status.BadInput
status_of (LongList samples) = status.BadInput
status_of (BadCost at) = status.BadInput
status_of (CostCount have need) = status.BadInput
status_of (CutAt start have need) = status.CutFrame
status_of (BadHeader start) = status.NoFrame
status_of (BadTaps at) = status.BadWords

-- what is reported of a cut, behind a front
abbrev pub cut_report : List ℕ → ℕ → ℕ → ℕ → List ℕ
cut_report front start have need =
    front ++ decimal start ++ codes " has " ++ decimal have ++ codes " of " ++ decimal need
    ++ codes " samples"

-- the report line of a refusal, without its newline
abbrev pub report_of : Refusal → List ℕ
report_of Words = codes "error 1: words"
report_of EmptyPsdu = codes "error 2: empty psdu"
report_of LongPsdu = codes "error 3: psdu over 4095 octets"
report_of (TornCapture bytes) =
    codes "error 4: capture ends after " ++ decimal bytes ++ codes " bytes"
report_of LongCapture = codes "error 5: input over 67108864 bytes"
report_of (BadBit at) = codes "error 6: no bit at " ++ decimal at
report_of (BitCount have need) =
    codes "error 7: " ++ decimal have ++ codes " bits, need " ++ decimal need
report_of NoFrame = codes "error 8: no frame"
report_of (CutFrame start have need) = cut_report (codes "error 9: frame at ") start have need
report_of ReadFault = codes "error 10: read fault"
report_of WriteFault = codes "error 11: write fault"
report_of NoMemory = codes "error 12: no memory"
report_of (BadScript at) = codes "error 13: bad script at " ++ decimal at
report_of (BadList at) = codes "error 14: no list at " ++ decimal at
report_of (LongList samples) = codes "error 15: list of " ++ decimal samples ++ codes " samples"
report_of (BadCost at) = codes "error 16: no cost at " ++ decimal at
report_of (CostCount have need) =
    codes "error 17: " ++ decimal have ++ codes " costs, need " ++ decimal need
report_of (CutAt start have need) = cut_report (codes "error 18: frame at ") start have need
report_of (BadHeader start) = codes "error 19: no header at " ++ decimal start
report_of (BadTaps at) = codes "error 20: bad taps at " ++ decimal at

-- the report line: a newline ends it
abbrev pub report_line : Refusal → List ℕ
report_line refusal = report_of refusal ++ 10 ∷ []

-- the statuses that the words and the input alone decide
abbrev pub IsDecided : Status → Type 0
IsDecided status.Ok = ⊥
IsDecided status.BadWords = Unit {0}
IsDecided status.BadInput = Unit {0}
IsDecided status.NoFrame = Unit {0}
IsDecided status.CutFrame = Unit {0}
IsDecided status.ReadFault = ⊥
IsDecided status.WriteFault = ⊥
IsDecided status.NoMemory = ⊥

-- the steps of a run, in their order: the words are judged, the input is read, the answer is found, the
-- answer is written. Memory may be wanted at any
pub data Step : Type 0 where
  asking : Step
  reading : Step
  answering : Step
  writing : Step
  any : Step

-- the step at which a refusal comes
abbrev pub step_of : Refusal → Step
step_of Words = asking
step_of EmptyPsdu = reading
step_of LongPsdu = reading
step_of (TornCapture bytes) = reading
step_of LongCapture = reading
step_of (BadBit at) = answering
step_of (BitCount have need) = answering
step_of NoFrame = answering
step_of (CutFrame start have need) = answering
step_of ReadFault = reading
step_of WriteFault = writing
step_of NoMemory = any
step_of (BadScript at) = asking
step_of (BadList at) = answering
step_of (LongList samples) = answering
step_of (BadCost at) = answering
step_of (CostCount have need) = answering
step_of (CutAt start have need) = answering
step_of (BadHeader start) = answering
step_of (BadTaps at) = asking
