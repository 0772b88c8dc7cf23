use Rattle.viterbi_lanes.proofs.Decisions.{marks_of_more, marks_of-take, marks_of_costs, distance_of_decisions}
use Rattle.viterbi_lanes.proofs.laws.marks_of_decisions.Goals as goal

pub returns-clause-one_more : goal.returns-clause-one_more
returns-clause-one_more c = marks_of_more

pub returns-clause-costs : goal.returns-clause-costs
returns-clause-costs c = λ rate decisions steps bits. marks_of_costs rate decisions bits steps

pub returns-clause-distance : goal.returns-clause-distance
returns-clause-distance c = λ rate u decisions steps bits long. distance_of_decisions rate steps u decisions bits long

pub returns-clause-first_decisions : goal.returns-clause-first_decisions
returns-clause-first_decisions c = marks_of-take
