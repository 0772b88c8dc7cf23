-- What stands at each edge of a capture (own).
use Rattle.std.specs.Prelude.{◌≡◌, ℕ, ◌+◌, ◌<◌, ◌≤◌, List, [], ◌∷◌, length, drop, true, false, Result, Ok, Err}
use Rattle.fixed_complex.specs.declared.Sample.{Sample}
use Rattle.signal_field.specs.declared.Header.{Header}
use Rattle.signal_field.specs.declared.HeaderFault.{HeaderFault}
use Rattle.signal_field.specs.declared.HeaderFault.TheVariants as fault
use Rattle.frame_search.specs.Edges.{IsNextEdge, NoEdge}
use Rattle.frame_search.specs.Match.{matches, part}
use Rattle.frame_reader.specs.Decisions.{plain_decisions}
use Rattle.frame_reader.specs.Frames.{SaysHeader}
use Rattle.frame_findings.specs.declared.EdgeReport.{EdgeReport}
use Rattle.frame_findings.specs.declared.Finding.{Finding}
use Rattle.frame_findings.specs.declared.Finding.TheVariants.{Short, NoMatch, BadParity, BadRate, ZeroLength, Good}

-- the finding of a header, or of its fault
abbrev pub finding_of : Result Header HeaderFault → Finding
finding_of (Ok header) = Good header.rate header.length header.reserved
finding_of (Err fault.BadParity) = BadParity
finding_of (Err (fault.BadRate pattern)) = BadRate pattern
finding_of (Err fault.ZeroLength) = ZeroLength

-- what opens samples: fewer than 400 are short, whatever they are; where the first 320 don't match the training fields
-- there is no match; else it is what SIGNAL says by the plain decisions
pub data IsFinding (samples : List Sample) (finding : Finding) : Type 0 where
  short : length samples < 400 → finding ≡ Short → IsFinding samples finding
  no_match : 400 ≤ length samples → matches (part samples 0 320) ≡ false → finding ≡ NoMatch
      → IsFinding samples finding
  header : 400 ≤ length samples → matches (part samples 0 320) ≡ true → (read : Result Header HeaderFault)
      → SaysHeader (plain_decisions samples) read → finding ≡ finding_of read → IsFinding samples finding

-- one report for each edge of a capture from a place on, in order
abbrev pub AreReports : List Sample → ℕ → List EdgeReport → Type 0
AreReports capture from [] = NoEdge capture from (length capture)
AreReports capture from (report ∷ reports) =
    IsNextEdge capture from report.place
    × IsFinding (drop report.place capture) report.finding
    × AreReports capture (report.place + 1) reports
