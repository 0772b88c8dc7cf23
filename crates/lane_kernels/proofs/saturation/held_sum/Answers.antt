use Rattle.std.proofs.Common.{rules}
use Rattle.lane_kernels.specs.Kernels.{held_sum}
use Rattle.lane_kernels.proofs.Storing.{saturated_sum}
use Rattle.fixed_complex.proofs.Samples.{same_sample}
use Rattle.lane_kernels.proofs.saturation.held_sum.Goals as goal

pub returns : goal.returns
returns c =
    let a = c.args.a in
    let b = c.args.b in
    same_sample _ (held_sum a b)
    (saturated_sum c.saturating_add.result a.i b.i (search rules) (search rules) c.saturating_add.ensures)
    (saturated_sum c.saturating_add-2.result a.q b.q (search rules) (search rules) c.saturating_add-2.ensures)
