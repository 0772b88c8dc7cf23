-- The walk over a capture: all frames in order, and at most one cut (own).
use Rattle.std.specs.Prelude.{◌≡◌, ℕ, ◌+◌, ◌*◌, ◌<◌, ◌≤◌, List, [], ◌∷◌, length, drop, Option, Some, None}
use Rattle.fixed_complex.specs.declared.Sample.{Sample}
use Rattle.rate_table.specs.declared.Rate.{Rate}
use Rattle.rate_table.specs.Symbols.{symbol_count}
use Rattle.rate_table.specs.Table.{row_of}
use Rattle.signal_field.specs.declared.Header.{Header}
use Rattle.frame_search.specs.Edges.{IsEdge}
use Rattle.frame_reader.specs.Decisions.{plain_decisions}
use Rattle.frame_reader.specs.Frames.{HasField, Opens, need_of}
use Rattle.frame_findings.specs.declared.Cut.{Cut}
use Rattle.frame_findings.specs.declared.Heard.{Heard}

-- a place is chosen, with its header: it is an edge, 400 samples stand from it on, they match the training fields, and
-- the header is good
pub record IsChosen (capture : List Sample) (place : ℕ) (header : Header) : Type 0 where
  pub edge : IsEdge capture place
  pub within : place + 400 ≤ length capture
  pub opens : Opens (drop place capture) header

-- no place from one on and before another is chosen
abbrev pub NoneChosen : List Sample → ℕ → ℕ → Type 0
NoneChosen capture from upto =
    (place : ℕ) (header : Header) → from ≤ place → place < upto → ¬ IsChosen capture place header

-- the least chosen place from a place on, with its header
pub record IsNextChosen (capture : List Sample) (from place : ℕ) (header : Header) : Type 0 where
  pub least : from ≤ place
  pub chosen : IsChosen capture place header
  pub none_before : NoneChosen capture from place

-- a frame with a header is heard, by decisions of its symbols: all its samples stand in the capture, and it has the rate
-- and LENGTH of the header, and the number and the PSDU of its field
pub record IsHeard (decisions : Rate → ℕ → List ℕ) (capture : List Sample) (header : Header) (heard : Heard)
    : Type 0 where
  pub whole : heard.start + need_of header ≤ length capture
  pub rate : heard.rate ≡ header.rate
  pub octets : heard.length ≡ header.length
  pub field : HasField decisions header heard.seed heard.psdu

-- the next frame from a place on is heard, by the plain decisions
pub record HearsNext (capture : List Sample) (from : ℕ) (heard : Heard) : Type 0 where
  pub header : Header
  pub next : IsNextChosen capture from heard.start header
  pub frame : IsHeard (plain_decisions (drop heard.start capture)) capture header heard

-- the capture ends in the next frame from a place on: so many samples stand of the so many that it has by its header
pub record CutsNext (capture : List Sample) (from : ℕ) (cut : Cut) : Type 0 where
  pub header : Header
  pub next : IsNextChosen capture from cut.start header
  pub have : cut.start + cut.have ≡ length capture
  pub need : cut.need ≡ need_of header
  pub short : cut.have < cut.need

-- the place behind a frame
abbrev pub end_of : Heard → ℕ
end_of heard = heard.start + (400 + 80 * symbol_count (row_of heard.rate).field_bits heard.length)

-- a walk that hears frames goes from one place to another: each frame is the next one from the end of the frame before
abbrev pub Walks : List Sample → ℕ → List Heard → ℕ → Type 0
Walks capture from [] upto = from ≡ upto
Walks capture from (heard ∷ rest) upto = HearsNext capture from heard × Walks capture (end_of heard) rest upto

-- a walk ends at a place: none is chosen from there on, or the capture ends in the next frame
abbrev pub Ends : List Sample → ℕ → Option Cut → Type 0
Ends capture upto None = NoneChosen capture upto (length capture)
Ends capture upto (Some cut) = CutsNext capture upto cut

-- the findings of a capture: the frames of a walk from its first place on, up to where it ends, and the cut in which it
-- does, if it does
pub record AreFindings (capture : List Sample) (heard : List Heard) (cut : Option Cut) : Type 0 where
  pub upto : ℕ
  pub walks : Walks capture 0 heard upto
  pub ends : Ends capture upto cut
