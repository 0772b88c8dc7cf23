use Rattle.frame_findings.proofs.Walking.{one_findings, some_findings}
use Rattle.frame_findings.proofs.laws.one_reception.Goals as goal

pub returns-clause-some : goal.returns-clause-some
returns-clause-some c = some_findings

pub returns-clause-no_other : goal.returns-clause-no_other
returns-clause-no_other c = one_findings
