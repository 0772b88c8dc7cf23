use Rattle.std.proofs.Common.{arith}
use Rattle.lane_kernels.proofs.Masks.{none_above, none_below, zero_where_not}
use Rattle.lane_kernels.proofs.loudness.any_beyond.Goals as goal

pub returns-else-above-ne0 : goal.returns-else-above-ne0
returns-else-above-ne0 c = record {
  most = λ _. none_above c.args.most c.requires.most (omega arith) c.if-above-ne0.false;
  least = λ quiet. none_below c.args.least c.requires.least (omega arith) (zero_where_not _ quiet);
}
