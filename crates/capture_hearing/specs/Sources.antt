-- What was heard of a source (own).
use Rattle.std.specs.Prelude.{ℕ, List, Option}
use Rattle.modem_ports.specs.Told.{Gives}
use Rattle.report_lines.specs.declared.Refusal.{Refusal}
use Rattle.report_lines.specs.declared.Refusal.TheVariants.{Words, EmptyPsdu, LongPsdu, TornCapture, LongCapture, BadBit, BitCount, NoFrame, CutFrame, ReadFault, WriteFault, NoMemory, BadScript, BadList, LongList, BadCost, CostCount, CutAt, BadHeader, BadTaps}
use Rattle.capture_hearing.specs.Hearing.{HasHeard, HearingView}

-- a hearing heard just the bytes that a source gave
abbrev pub HeardFrom : Option (List ℕ) → Option (List ℕ) → HearingView → Type 0
HeardFrom before after hearing = (piece : List ℕ) × Gives before piece after × HasHeard hearing piece

-- the refusals that receiving may come to
abbrev pub IsOfReceiving : Refusal → Type 0
IsOfReceiving Words = ⊥
IsOfReceiving EmptyPsdu = ⊥
IsOfReceiving LongPsdu = ⊥
IsOfReceiving (TornCapture bytes) = Unit {0}
IsOfReceiving LongCapture = Unit {0}
IsOfReceiving (BadBit at) = ⊥
IsOfReceiving (BitCount have need) = ⊥
IsOfReceiving NoFrame = Unit {0}
IsOfReceiving (CutFrame start have need) = Unit {0}
IsOfReceiving ReadFault = Unit {0}
IsOfReceiving WriteFault = ⊥
IsOfReceiving NoMemory = Unit {0}
IsOfReceiving (BadScript at) = ⊥
IsOfReceiving (BadList at) = ⊥
IsOfReceiving (LongList samples) = ⊥
IsOfReceiving (BadCost at) = ⊥
IsOfReceiving (CostCount have need) = ⊥
IsOfReceiving (CutAt start have need) = ⊥
IsOfReceiving (BadHeader start) = ⊥
IsOfReceiving (BadTaps at) = ⊥
