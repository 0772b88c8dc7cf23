use Rattle.modem_runs.proofs.Refused.{never_rose}
use Rattle.modem_runs.proofs.dry_run.Goals as goal

pub returns-clause-answers : goal.returns-clause-answers
returns-clause-answers g c = c.run.ensures.answers never_rose never_rose

pub returns-clause-refuses : goal.returns-clause-refuses
returns-clause-refuses g c = c.run.ensures.refuses never_rose
