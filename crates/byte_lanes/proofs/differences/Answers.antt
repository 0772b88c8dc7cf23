use Rattle.std.proofs.Common.{◌≡◌, length, arith}
use Rattle.std.proofs.lemmas.Bool.Decides.{nat_tests}
use Rattle.std.proofs.lemmas.List.{take_all}
use Rattle.byte_lanes.proofs.ByteMasks.{differences-one}
use Rattle.byte_lanes.proofs.differences.Goals.{then-a-n, else-a-n}
use Rattle.byte_lanes.proofs.differences.Goals as goal

pub loop-n-init : goal.loop-n-init
loop-n-init c = record { so_far = c.lane_differences-differences.ensures.count; within = c.lane_differences-differences.ensures.within }

pub loop-n-preserved : goal.loop-n-preserved
loop-n-preserved c =
    let n = c.loop-n.n in
    let one = differences-one c.args.a.now c.args.b.now n (omega arith) c.requires.long in
    elim c.if-a-n.branch [
      | then-a-n w ↦ record { so_far = grind (arith, nat_tests); within = omega arith }
      | else-a-n w ↦ record { so_far = grind (arith, nat_tests); within = omega arith }
    ]

pub returns-clause-count : goal.returns-clause-count
returns-clause-count c =
    let whole : c.loop-n.n ≡ length c.args.a.now = omega arith in
    rw (whole, take_all (length c.args.a.now) c.args.a.now (omega arith), take_all (length c.args.a.now) c.args.b.now (omega arith)) at c.loop-n.invariant.so_far
