use Rattle.viterbi_lanes.proofs.Nearest.{few_changes_repaired}
use Rattle.viterbi_lanes.proofs.laws.few_changes_are_repaired.Goals as goal

pub returns : goal.returns
returns c = few_changes_repaired
