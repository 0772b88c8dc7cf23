use Rattle.kept_weights.proofs.Nearest.{cheap_is_nearest, cheap_cost_is_least}
use Rattle.kept_weights.proofs.laws.cheap_list_is_nearest.Goals as goal

pub returns-clause-list : goal.returns-clause-list
returns-clause-list c = cheap_is_nearest

pub returns-clause-cost : goal.returns-clause-cost
returns-clause-cost c = cheap_cost_is_least
