use Rattle.frame_findings.proofs.Reporting.{one_reports, some_reports}
use Rattle.frame_findings.proofs.laws.one_report.Goals as goal

pub returns-clause-some : goal.returns-clause-some
returns-clause-some c = some_reports

pub returns-clause-no_other : goal.returns-clause-no_other
returns-clause-no_other c = one_reports
