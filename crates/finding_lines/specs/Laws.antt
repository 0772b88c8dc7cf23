-- What holds of the room that lines take: what the laws ensure (own).
use Rattle.std.specs.Prelude.{ℕ, ◌+◌, ◌*◌, ◌≤◌, List, [], ◌∷◌, ◌++◌, length, Some}
use Rattle.std.specs.List.{flat_map}
use Rattle.fixed_complex.specs.declared.Sample.{Sample}
use Rattle.frame_findings.specs.declared.Cut.{Cut}
use Rattle.frame_findings.specs.declared.Heard.{Heard}
use Rattle.frame_findings.specs.Walk.{AreFindings, Walks}
use Rattle.finding_lines.specs.Lines.{frame_line, most_text}

-- room for the line of a frame: two bytes an octet, and 51 more
abbrev pub line_room : Heard → ℕ
line_room heard = 2 * length heard.psdu + 51

-- where frames are heard in a capture, and one more, the lines of the first and room for that of the
-- last are no more bytes than the capture has samples
abbrev pub NextLineFits : Type 0
NextLineFits =
    (capture : List Sample) (heard : List Heard) (next : Heard) (upto : ℕ)
    → length capture ≤ most_text → Walks capture 0 (heard ++ next ∷ []) upto
    → length (flat_map frame_line heard) + line_room next ≤ length capture

-- .. and where the capture ends in a cut, so are the lines of its frames and 37 bytes for the cut's
abbrev pub CutLineFits : Type 0
CutLineFits =
    (capture : List Sample) (heard : List Heard) (cut : Cut)
    → length capture ≤ most_text → AreFindings capture heard (Some cut)
    → length (flat_map frame_line heard) + 37 ≤ length capture
