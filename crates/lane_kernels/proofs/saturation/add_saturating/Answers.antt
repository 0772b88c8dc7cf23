use Rattle.std.proofs.Common.{◌≡◌, ◌+◌, ◌*◌, ◌/◌, length, ◌∙◌, arith}
use Rattle.lane_kernels.proofs.Storing.{sums-join, sums-whole}
use Rattle.lane_kernels.proofs.saturation.add_saturating.Goals as goal

pub loop-k-preserved : goal.loop-k-preserved
loop-k-preserved c =
    let i = 8 * c.loop-k.k in
    let first = sums-join 0 i (i + 4) c.args.a.now c.args.b.now c.loop-k.a c.add_four.new.a (omega arith) (omega arith) c.loop-k.invariant.sums c.add_four.ensures.sums in
    let more = sums-join 0 (i + 4) (i + 4 + 4) c.args.a.now c.args.b.now c.add_four.new.a c.add_four-in-loop-k.new.a (omega arith) (omega arith) first c.add_four-in-loop-k.ensures.sums in
    let e : 8 * (c.loop-k.k + 1) ≡ i + 4 + 4 = omega arith in
    record { len = c.add_four-in-loop-k.ensures.len ∙ c.add_four.ensures.len ∙ c.loop-k.invariant.len; sums = rw e more }

pub returns : goal.returns
returns c =
    let whole : 8 * c.loop-k.k ≡ 8 * (length c.args.a.now / 8) = omega arith in
    let first = rw whole at c.loop-k.invariant.sums in
    let all = sums-join 0 (8 * (length c.args.a.now / 8)) (length c.loop-k.a) c.args.a.now c.args.b.now c.loop-k.a c.add_rest.new.a (omega arith) (omega arith) first c.add_rest.ensures.sums in
    sums-whole c.args.a.now c.args.b.now c.add_rest.new.a (length c.loop-k.a) c.loop-k.invariant.len c.requires.long (omega arith) all
