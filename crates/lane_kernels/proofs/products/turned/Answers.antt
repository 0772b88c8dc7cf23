use Rattle.std.proofs.Common.{sym, subst, arith}
use Rattle.lane_kernels.specs.Lanes.{AreOf16Bits}
use Rattle.lane_kernels.proofs.Parts.{turned_are, turned_of_16_bits}
use Rattle.lane_kernels.proofs.products.turned.Goals as goal

pub returns : goal.returns
returns c =
    let is = turned_are c.args.y (omega arith) c.requires in
    record { value = is; of_16_bits = subst AreOf16Bits (sym is) (turned_of_16_bits c.args.y c.requires) }
