use Rattle.viterbi_lanes.proofs.Nearest.{some_nearest_to}
use Rattle.viterbi_lanes.proofs.laws.some_nearest.Goals as goal

pub returns : goal.returns
returns c = some_nearest_to
