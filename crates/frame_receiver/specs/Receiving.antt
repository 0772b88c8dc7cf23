-- What a receiver stands for (own).
use Rattle.std.specs.Prelude.{◌≡◌, ℕ, ◌+◌, ◌*◌, ◌<◌, ◌≤◌, List, [], ◌∷◌, ◌++◌, length, drop, Option, Some, None}
use Rattle.fixed_complex.specs.declared.Cx.{Cx}
use Rattle.fixed_complex.specs.declared.Sample.{Sample}
use Rattle.rate_table.specs.Table.{row_of}
use Rattle.survivor_memory.specs.Survivors.{MemoryView}
use Rattle.viterbi_lanes.specs.Decisions.{carried_steps, marks_of}
use Rattle.viterbi_lanes.specs.Marks.{StandsFor}
use Rattle.frame_reader.specs.Decisions.{estimate_from, plain_decisions}
use Rattle.frame_reader.specs.Frames.{data_decisions, symbols_of}
use Rattle.frame_findings.specs.declared.Cut.{Cut}
use Rattle.frame_findings.specs.declared.Heard.{Heard}
use Rattle.frame_findings.specs.Walk.{AreFindings, IsNextChosen, NoneChosen, Walks}
use Rattle.frame_receiver.specs.declared.receiver.At.{At}
use Rattle.frame_receiver.specs.declared.receiver.Found.{Found}
use Rattle.frame_receiver.specs.Tails.{IsTailOf, TailView}

-- what a receiver shows: the last samples; the end of the last frame; where a frame is heard, if one is; the estimate of
-- the channel; the trellis; the PSDU of the last frame; and the steps that were spent
pub record ReceiverView : Type 0 where
  pub tail : TailView
  pub from : ℕ
  pub at : Option At
  pub estimate : List Cx
  pub trellis : MemoryView
  pub psdu : List ℕ
  pub spent : ℕ

-- it searches: no place from the end of the last frame on is chosen, and the trellis holds no pairs
pub record IsSearching (samples : List Sample) (from : ℕ) (trellis : MemoryView) : Type 0 where
  pub none : NoneChosen samples from (length samples)
  pub within : from ≤ length samples
  pub empty : StandsFor trellis []

-- it is within a frame: its place is the next one that is chosen, header and estimate are those of the place, and the
-- trellis stands for the pairs of all its DATA symbols that are whole, up to the end of the tail; one isn't whole
pub record IsWithin (samples : List Sample) (from : ℕ) (at : At) (estimate : List Cx) (trellis : MemoryView) : Type 0
  where
    pub next : IsNextChosen samples from at.place at.header
    pub estimate_is : estimate ≡ estimate_from (drop at.place samples)
    pub whole : at.place + 400 + 80 * at.symbols ≤ length samples
    pub not_whole : length samples < at.place + 480 + 80 * at.symbols
    pub more : at.symbols < symbols_of at.header
    pub pairs : StandsFor trellis
        (marks_of (row_of at.header.rate).code_rate
        (data_decisions (plain_decisions (drop at.place samples)) at.header.rate at.symbols)
        (carried_steps at.header.rate at.header.length at.symbols))

-- a trellis took the decisions of the next symbol of a frame, whatever those before it were
abbrev pub TakesSymbol : At → List ℕ → MemoryView → MemoryView → Type 0
TakesSymbol at decisions old new =
    (before : List ℕ) → length before ≡ at.symbols * (row_of at.header.rate).coded_bits
    → StandsFor old
    (marks_of (row_of at.header.rate).code_rate before
    (carried_steps at.header.rate at.header.length at.symbols))
    → StandsFor new
    (marks_of (row_of at.header.rate).code_rate (before ++ decisions)
    (carried_steps at.header.rate at.header.length (at.symbols + 1)))

-- the state that it is in
abbrev pub IsIn : List Sample → ReceiverView → Option At → Type 0
IsIn samples receiver None = IsSearching samples receiver.from receiver.trellis
IsIn samples receiver (Some at) = IsWithin samples receiver.from at receiver.estimate receiver.trellis

-- the PSDU is that of the last frame, if there is one
abbrev pub IsLastPsdu : List Heard → List ℕ → Type 0
IsLastPsdu heard psdu = (front : List Heard) (last : Heard) → heard ≡ front ++ last ∷ [] → psdu ≡ last.psdu

-- a receiver stands for the samples that came, and for the frames that were heard: these are the frames of a walk up to
-- the end of the last one, and the state is that of its further search
pub record Stands (receiver : ReceiverView) (samples : List Sample) (heard : List Heard) : Type 0 where
  pub tail : IsTailOf receiver.tail samples
  pub walks : Walks samples 0 heard receiver.from
  pub state : IsIn samples receiver receiver.at
  pub last : IsLastPsdu heard receiver.psdu

-- a frame that was found, with its PSDU
abbrev pub frame_of : Found → List ℕ → Heard
frame_of found psdu = record {
  start = found.start;
  rate = found.rate;
  length = found.length;
  seed = found.seed;
  psdu = psdu;
}

-- the frames that were heard, with the one that was found, if one was
abbrev pub heard_with : List Heard → Option Found → List ℕ → List Heard
heard_with heard None psdu = heard
heard_with heard (Some found) psdu = heard ++ frame_of found psdu ∷ []

-- with one sample more the frames among the findings of samples are those before, and the one that is found, if one is
abbrev pub FramesGrow : List Sample → Sample → Option Found → List ℕ → Type 0
FramesGrow samples sample found psdu =
    (before after : List Heard) (cut end : Option Cut) → AreFindings samples before cut
    → AreFindings (samples ++ sample ∷ []) after end → after ≡ heard_with before found psdu
