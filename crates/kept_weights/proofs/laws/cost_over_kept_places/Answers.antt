use Rattle.kept_weights.proofs.Costs.{cost-over_kept_code, cost-hard}
use Rattle.kept_weights.proofs.laws.cost_over_kept_places.Goals as goal

pub returns-clause-sum : goal.returns-clause-sum
returns-clause-sum c = cost-over_kept_code

pub returns-clause-hard : goal.returns-clause-hard
returns-clause-hard c = cost-hard
