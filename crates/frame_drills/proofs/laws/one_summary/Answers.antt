use Rattle.frame_drills.proofs.Back.{one_summary, some_summary}
use Rattle.frame_drills.proofs.laws.one_summary.Goals as goal

pub returns-clause-some : goal.returns-clause-some
returns-clause-some c = some_summary

pub returns-clause-no_other : goal.returns-clause-no_other
returns-clause-no_other c = one_summary
