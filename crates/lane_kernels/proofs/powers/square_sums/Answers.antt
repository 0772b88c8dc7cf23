use Rattle.std.proofs.Common.{arith}
use Rattle.lane_kernels.proofs.WordLanes.{square_casts_fit, square_pairs_fit, square_pairs_are}
use Rattle.lane_kernels.proofs.powers.square_sums.Goals as goal

pub overflow_cast-squares : goal.overflow_cast-squares
overflow_cast-squares c = square_casts_fit c.args.squares (omega arith) c.requires

pub overflow_add-result : goal.overflow_add-result
overflow_add-result c = square_pairs_fit c.args.squares (omega arith) c.requires

pub returns : goal.returns
returns c = square_pairs_are c.args.squares (omega arith) c.requires
