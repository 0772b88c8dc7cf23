use Rattle.std.proofs.Common.{◌≡◌, ◌+◌, ◌*◌, refl, arith}
use Rattle.byte_lanes.proofs.ByteMasks.{differences-more, differences-none}
use Rattle.byte_lanes.proofs.lane_differences.Goals as goal

pub loop-k-init : goal.loop-k-init
loop-k-init c = record { so_far = differences-none; within = omega arith }

pub loop-k-preserved : goal.loop-k-preserved
loop-k-preserved c =
    let i = 16 * c.loop-k.k in
    let j : 16 * (c.loop-k.k + 1) ≡ 16 * c.loop-k.k + 16 = omega arith in
    let more = differences-more c.args.a.now c.args.b.now i 16 (i + 16) refl c.requires.long in
    record { so_far = rw j (omega (arith, more)); within = omega arith }
