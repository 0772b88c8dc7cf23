use Rattle.std.proofs.Common.{◌≡◌, take}
use Rattle.finding_lines.specs.Lines.{text_of_reports}
use Rattle.finding_lines.proofs.reports.reports_text.Given as goal

abbrev pub invariant-loop-report : goal.invariant-loop-report
invariant-loop-report l = l.text.items ≡ text_of_reports (take l.report-index l.reports)
