-- The frame at a start that is given, with no search (own).
use Rattle.std.specs.Prelude.{◌≡◌, ℕ, ◌-◌, ◌<◌, ◌≤◌, List, length, drop, Result, Ok, Err}
use Rattle.fixed_complex.specs.declared.Sample.{Sample}
use Rattle.rate_table.specs.declared.Rate.{Rate}
use Rattle.signal_field.specs.declared.Header.{Header}
use Rattle.signal_field.specs.declared.HeaderFault.{HeaderFault}
use Rattle.frame_reader.specs.Frames.{SaysHeader, need_of}
use Rattle.frame_findings.specs.declared.Heard.{Heard}
use Rattle.frame_findings.specs.Walk.{IsHeard}
use Rattle.frame_starts.specs.declared.AtFault.{AtFault}
use Rattle.frame_starts.specs.declared.AtFault.TheVariants.{BadHeader, CutAt}

-- how many samples stand from a place on: none where it is past the end
abbrev pub standing : List Sample → ℕ → ℕ
standing capture start = length capture - start

-- the header at a start: 400 samples stand from there on, and SIGNAL says it or its fault, by the decisions of a frame
-- that begins with the first of them
abbrev pub ReadsAt : (List Sample → Rate → ℕ → List ℕ) → List Sample → ℕ → Result Header HeaderFault → Type 0
ReadsAt decisions capture start read =
    400 ≤ standing capture start × SaysHeader (decisions (drop start capture)) read

-- what the frame at a start comes to: it is cut before its header, or has none that is good, or is cut by the header, or
-- is heard
pub data IsFrameAt (decisions : List Sample → Rate → ℕ → List ℕ) (capture : List Sample) (start : ℕ)
    (answer : Result Heard AtFault) : Type 0 where
  short : standing capture start < 400 → answer ≡ Err (CutAt start (standing capture start) 400)
      → IsFrameAt decisions capture start answer
  no_header : (fault : HeaderFault) → ReadsAt decisions capture start (Err fault) → answer ≡ Err (BadHeader start)
      → IsFrameAt decisions capture start answer
  cut : (header : Header) → ReadsAt decisions capture start (Ok header)
      → standing capture start < need_of header
      → answer ≡ Err (CutAt start (standing capture start) (need_of header))
      → IsFrameAt decisions capture start answer
  heard : (header : Header) → ReadsAt decisions capture start (Ok header) → (heard : Heard) → heard.start ≡ start
      → IsHeard (decisions (drop start capture)) capture header heard → answer ≡ Ok heard
      → IsFrameAt decisions capture start answer
