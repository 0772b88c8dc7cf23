use Rattle.kept_weights.proofs.Scaled.{cost-scaled, nearest-scaled}
use Rattle.kept_weights.proofs.laws.full_decisions_are_hard.Goals as goal

pub returns-clause-cost : goal.returns-clause-cost
returns-clause-cost c = cost-scaled

pub returns-clause-nearest : goal.returns-clause-nearest
returns-clause-nearest c = nearest-scaled
