use Rattle.kept_weights.proofs.Fronts.{costs_of_steps-more, costs_of_steps-take}
use Rattle.kept_weights.proofs.laws.pairs_of_decisions.Goals as goal

pub returns-clause-one_more : goal.returns-clause-one_more
returns-clause-one_more c = costs_of_steps-more

pub returns-clause-first_decisions : goal.returns-clause-first_decisions
returns-clause-first_decisions c = costs_of_steps-take
