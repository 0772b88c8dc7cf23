use Rattle.std.proofs.Common.{◌+◌, ap, ◌∙◌, refl, length-set, arith}
use Rattle.lane_kernels.specs.Kernels.{held_sum}
use Rattle.fixed_complex.specs.Samples.{sample_at}
use Rattle.lane_kernels.proofs.Storing.{sums-more}
use Rattle.lane_kernels.proofs.saturation.add_rest.Goals as goal

pub loop-n-preserved : goal.loop-n-preserved
loop-n-preserved c =
    let b = c.args.b.now in
    let n = c.loop-n.n in
    let value = c.held_sum.ensures ∙ ap (λ s. held_sum s (sample_at b n)) (c.loop-n.invariant.sums.behind n (omega arith)) in
    record {
      len = rw length-set c.loop-n.invariant.len;
      sums = sums-more c.args.from n (n + 1) c.args.a.now b c.loop-n.a c.held_sum.result refl (omega arith) (omega arith) value c.loop-n.invariant.sums;
    }
