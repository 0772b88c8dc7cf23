use Rattle.std.proofs.Common.{arith}
use Rattle.plain_waves.proofs.Parts.{rounded_to_16}
use Rattle.plain_waves.proofs.over_2_21.Goals as goal

pub returns : goal.returns
returns c =
    let i = rounded_to_16 c.args.sum.re 1048576 (omega arith) (omega arith) c.requires.i in
    let q = rounded_to_16 c.args.sum.im 1048576 (omega arith) (omega arith) c.requires.q in
    λ t. record { i = i t; q = q t }
