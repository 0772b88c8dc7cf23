use Rattle.kept_weights.proofs.Fronts.{kept_code-take, distance_over-take}
use Rattle.kept_weights.proofs.laws.kept_code_of_front.Goals as goal

pub returns-clause-list : goal.returns-clause-list
returns-clause-list c = kept_code-take

pub returns-clause-distance : goal.returns-clause-distance
returns-clause-distance c = distance_over-take
