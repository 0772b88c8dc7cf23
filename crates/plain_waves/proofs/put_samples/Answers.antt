use Rattle.std.proofs.Common.{◌≢◌, ◌+◌, ◌*◌, ◌<◌, length, get_or-set_same, get_or-set_other, length-set, below_more, arith}
use Rattle.plain_waves.proofs.put_samples.Goals as goal

pub loop-l-preserved : goal.loop-l-preserved
loop-l-preserved c =
    let r = c.args.r in
    let lane = c.loop-l.l in
    let so_far = c.loop-l.invariant in
    let here : 8 * r + lane < length c.loop-l.samples = omega (arith, so_far.long) in
    record {
      long = rw length-set so_far.long;
      put =
          below_more _ _
          (λ k lt. let other : 8 * r + k ≢ 8 * r + lane = omega arith in rw get_or-set_other (so_far.put k lt))
          (rw get_or-set_same c.over_2_9.ensures);
      before = λ n lt. let other : n ≢ 8 * r + lane = omega arith in rw get_or-set_other (so_far.before n lt);
    }
