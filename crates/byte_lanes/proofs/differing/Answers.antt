use Rattle.std.proofs.Common.{arith}
use Rattle.std.proofs.lemmas.List.{take_all}
use Rattle.byte_lanes.proofs.ByteMasks.{mask_counts, differences-le}
use Rattle.byte_lanes.proofs.differing.Goals as goal

pub returns-clause-count : goal.returns-clause-count
returns-clause-count c =
    let a = take_all 16 c.args.a.now (omega arith) in
    let b = take_all 16 c.args.b.now (omega arith) in
    rw (a, b) (mask_counts c.args.a.now c.args.b.now (omega arith) (omega arith))

pub returns-clause-within : goal.returns-clause-within
returns-clause-within c = rw (returns-clause-count c) (omega (arith, differences-le c.args.a.now c.args.b.now))
