-- What is written of a capture (own).
use Rattle.std.specs.Prelude.{ℕ, ◌≡◌, List, Option, Result, Ok, Err}
use Rattle.capture_hearing.specs.Received.{received_of}
use Rattle.fixed_complex.specs.declared.Sample.{Sample}
use Rattle.frame_findings.specs.declared.Cut.{Cut}
use Rattle.frame_findings.specs.declared.EdgeReport.{EdgeReport}
use Rattle.frame_findings.specs.declared.Heard.{Heard}
use Rattle.frame_findings.specs.Reports.{AreReports}
use Rattle.frame_findings.specs.Walk.{AreFindings}
use Rattle.finding_lines.specs.Lines.{text_of_reports}
use Rattle.report_lines.specs.declared.Refusal.{Refusal}
use Rattle.command_answers.specs.InOrder.{Outcome, Refuses, Writes}

-- the outcome of bytes that are written, or of a refusal
abbrev pub outcome_of : Result (List ℕ) Refusal → Outcome
outcome_of (Ok text) = Writes text
outcome_of (Err refusal) = Refuses refusal

-- an outcome is what comes of the findings of a capture
abbrev pub HasReceived : List Sample → Outcome → Type 0
HasReceived capture outcome =
    (heard : List Heard) × (cut : Option Cut) × AreFindings capture heard cut
    × (outcome ≡ outcome_of (received_of heard cut))

-- the text of the reports on all edges of a capture
abbrev pub HasReports : List Sample → List ℕ → Type 0
HasReports capture text =
    (reports : List EdgeReport) × AreReports capture 0 reports × (text ≡ text_of_reports reports)
