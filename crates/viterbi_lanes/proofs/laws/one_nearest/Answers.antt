use Rattle.viterbi_lanes.proofs.Nearest.{one_nearest_to}
use Rattle.viterbi_lanes.proofs.laws.one_nearest.Goals as goal

pub returns : goal.returns
returns c = one_nearest_to
