use Rattle.kept_weights.proofs.Nearest.{soft_repaired, soft_cost}
use Rattle.kept_weights.proofs.laws.soft_decisions_are_repaired.Goals as goal

pub returns-clause-list : goal.returns-clause-list
returns-clause-list c = soft_repaired

pub returns-clause-cost : goal.returns-clause-cost
returns-clause-cost c = soft_cost
