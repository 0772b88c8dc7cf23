use Rattle.viterbi_lanes.proofs.Symbols.{marks_join}
use Rattle.viterbi_lanes.proofs.laws.marks_of_symbols.Goals as goal

pub returns : goal.returns
returns c = marks_join
