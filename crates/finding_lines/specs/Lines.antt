-- Lines of findings, and of reports on edges (own). Numbers are in decimal.
use Rattle.std.specs.Prelude.{ℕ, List, [], ◌∷◌, ◌++◌, Option, Some, None, codes, decimal}
use Rattle.std.specs.List.{flat_map}
use Rattle.hex.specs.Hex.{encode_lower}
use Rattle.rate_table.specs.Table.{row_of}
use Rattle.frame_findings.specs.declared.Cut.{Cut}
use Rattle.frame_findings.specs.declared.EdgeReport.{EdgeReport}
use Rattle.frame_findings.specs.declared.Finding.{Finding}
use Rattle.frame_findings.specs.declared.Finding.TheVariants.{Short, NoMatch, BadParity, BadRate, ZeroLength, Good}
use Rattle.frame_findings.specs.declared.Heard.{Heard}

-- the most bytes of a text of findings
abbrev pub most_text : ℕ
most_text = 16777216

-- a number in decimal, and a space behind it
abbrev pub spaced : ℕ → List ℕ
spaced number = decimal number ++ 32 ∷ []

-- the line of a frame: `frame START MBPS LENGTH SEED HEX`, the PSDU in lower-case hexadecimal
abbrev pub frame_line : Heard → List ℕ
frame_line heard =
    codes "frame " ++ spaced heard.start ++ spaced (row_of heard.rate).mbps ++ spaced heard.length
    ++ spaced heard.seed ++ encode_lower heard.psdu ++ 10 ∷ []

-- the line of a cut: `cut START HAVE NEED`
abbrev pub cut_line : Cut → List ℕ
cut_line cut =
    codes "cut " ++ spaced cut.start ++ spaced cut.have ++ decimal cut.need ++ 10 ∷ []

-- the text of findings: the lines of the frames, and that of the cut behind them, if there is one
abbrev pub text_of_findings : List Heard → Option Cut → List ℕ
text_of_findings heard None = flat_map frame_line heard
text_of_findings heard (Some cut) = flat_map frame_line heard ++ cut_line cut

-- what a line of `inspect` says of an edge
abbrev pub finding_words : Finding → List ℕ
finding_words Short = codes "short"
finding_words NoMatch = codes "nomatch"
finding_words BadParity = codes "badparity"
finding_words (BadRate pattern) = codes "badrate " ++ decimal pattern
finding_words ZeroLength = codes "zerolength"
finding_words (Good rate length reserved) =
    codes "header " ++ spaced (row_of rate).mbps ++ spaced length ++ decimal reserved

-- the line of a report: `edge P`, and what it says of the edge
abbrev pub report_line : EdgeReport → List ℕ
report_line report =
    codes "edge " ++ spaced report.place ++ finding_words report.finding ++ 10 ∷ []

-- the text of reports: their lines, one after another
abbrev pub text_of_reports : List EdgeReport → List ℕ
text_of_reports reports = flat_map report_line reports
