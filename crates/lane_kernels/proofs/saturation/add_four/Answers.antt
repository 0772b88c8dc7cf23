use Rattle.std.proofs.Common.{◌+◌, ap, ◌∙◌, refl, length-set, arith}
use Rattle.std.specs.List.{slice_range}
use Rattle.lane_kernels.specs.Kernels.{held_sum}
use Rattle.fixed_complex.specs.Samples.{sample_at}
use Rattle.lane_kernels.proofs.Storing.{sample-held, sums-more}
use Rattle.fixed_complex.proofs.Samples.{same_sample}
use Rattle.lane_kernels.proofs.Wholes.{sample-chunk}
use Rattle.lane_kernels.proofs.saturation.add_four.Goals as goal

pub loop-n-preserved : goal.loop-n-preserved
loop-n-preserved c =
    let a = c.args.a.now in
    let b = c.args.b.now in
    let at = c.args.at in
    let n = c.loop-n.n in
    let x = slice_range a at (at + 4) in
    let y = slice_range b at (at + 4) in
    let a_at = sample-chunk a 4 at (at + 4) n refl c.loop-n-test.true in
    let b_at = sample-chunk b 4 at (at + 4) n refl c.loop-n-test.true in
    let both = sample-held c.components.result c.components-2.result c.add_lanes-sums.result (sample_at x) (sample_at y) c.components.ensures.value c.components-2.ensures.value c.add_lanes-sums.ensures n c.loop-n-test.true in
    let is = same_sample _ (held_sum (sample_at x n) (sample_at y n)) both.0 both.1 in
    let value = is ∙ (ap (λ s. held_sum s (sample_at y n)) a_at ∙ ap (held_sum (sample_at a (at + n))) b_at) in
    record {
      len = rw length-set c.loop-n.invariant.len;
      sums = sums-more at (at + n) (at + (n + 1)) a b c.loop-n.a _ (omega arith) (omega arith) (omega arith) value c.loop-n.invariant.sums;
    }
