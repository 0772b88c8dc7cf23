-- What the laws of findings and reports state (own).
use Rattle.std.specs.Prelude.{◌≡◌, List, ◌++◌, Option}
use Rattle.fixed_complex.specs.declared.Sample.{Sample}
use Rattle.frame_findings.specs.declared.Cut.{Cut}
use Rattle.frame_findings.specs.declared.EdgeReport.{EdgeReport}
use Rattle.frame_findings.specs.declared.Heard.{Heard}
use Rattle.frame_findings.specs.Reports.{AreReports}
use Rattle.frame_findings.specs.Walk.{AreFindings}

-- a capture has findings
abbrev pub SomeFindings : Type 0
SomeFindings = (capture : List Sample) → (heard : List Heard) × ((cut : Option Cut) × AreFindings capture heard cut)

-- and no others
abbrev pub OneFindings : Type 0
OneFindings =
    (capture : List Sample) (heard other : List Heard) (cut end : Option Cut) → AreFindings capture heard cut
    → AreFindings capture other end → (heard ≡ other) × (cut ≡ end)

-- the frames of samples are a prefix of the frames of all longer ones that begin with them
abbrev pub FramesStay : Type 0
FramesStay =
    (capture more : List Sample) (heard longer : List Heard) (cut end : Option Cut) → AreFindings capture heard cut
    → AreFindings (capture ++ more) longer end → (behind : List Heard) × (longer ≡ heard ++ behind)

-- a capture has reports
abbrev pub SomeReports : Type 0
SomeReports = (capture : List Sample) → (reports : List EdgeReport) × AreReports capture 0 reports

-- and no others
abbrev pub OneReports : Type 0
OneReports =
    (capture : List Sample) (reports others : List EdgeReport) → AreReports capture 0 reports
    → AreReports capture 0 others → reports ≡ others
