use Rattle.viterbi_lanes.proofs.Distances.{distance_is_cost, nearest_by_distance}
use Rattle.viterbi_lanes.proofs.laws.distance_is_cost.Goals as goal

pub returns-clause-distance : goal.returns-clause-distance
returns-clause-distance c = distance_is_cost

pub returns-clause-nearest : goal.returns-clause-nearest
returns-clause-nearest c = nearest_by_distance
