use Rattle.std.proofs.Common.{sym, subst, ◌∙◌, arith}
use Rattle.std.specs.Int.{int_max}
use Rattle.lane_kernels.specs.Lanes.{AreOf16Bits}
use Rattle.lane_kernels.proofs.Extremes.{greater-are, max-fits, zip2-of_16_bits}
use Rattle.lane_kernels.proofs.LaneSums.{eight_by}
use Rattle.lane_kernels.proofs.loudness.greater.Goals as goal

pub returns : goal.returns
returns c =
    let are = greater-are c.args.x c.args.y c.requires.x c.requires.y in
    record {
      value = are ∙ eight_by int_max c.args.x c.args.y (omega arith) (omega arith);
      of_16_bits = subst AreOf16Bits (sym are) (zip2-of_16_bits int_max max-fits c.args.x c.args.y c.requires.x c.requires.y);
    }
