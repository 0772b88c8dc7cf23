use Rattle.std.proofs.Common.{◌≡◌, ◌+◌, ◌^◌, ℕ}
use Rattle.byte_lanes.specs.Differences.{differences_of}
use Rattle.bit_lists.proofs.Differences.{differences_of-split}
use Rattle.bit_lists.proofs.+distance.Goals as goal

-- the two parts count what the whole does
both_parts : (t : ℕ) (c : goal.After-distance t) → c.differences-else-a-le-KERNEL_LIMIT.result + c.distance.result ≡ differences_of c.args.a.now c.args.b.now
both_parts t c =
    let a = c.split_at.ensures in
    let b = c.split_at-else-a-le-KERNEL_LIMIT.ensures in
    rw (c.differences-else-a-le-KERNEL_LIMIT.ensures.count, c.distance.ensures.value, a.front, a.back, b.front, b.back)
    (differences_of-split (2 ^ 24) c.args.a.now c.args.b.now)

pub returns-else-a-le-KERNEL_LIMIT-clause-value : goal.returns-else-a-le-KERNEL_LIMIT-clause-value
returns-else-a-le-KERNEL_LIMIT-clause-value t c = both_parts t c
