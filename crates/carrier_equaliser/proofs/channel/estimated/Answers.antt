use Rattle.std.proofs.Common.{◌^◌, arith}
use Rattle.std.proofs.lemmas.Int.{ints}
use Rattle.fixed_complex.proofs.PairLists.{everywhere_within}
use Rattle.carrier_equaliser.proofs.channel.estimated.Goals as goal

pub returns-clause-within : goal.returns-clause-within
returns-clause-within c =
    let first = everywhere_within (2 ^ 22) c.args.first.now c.requires.first c.args.bin in
    let second = everywhere_within (2 ^ 22) c.args.second.now c.requires.second c.args.bin in
    c.signed.ensures.within (2 ^ 23)
    (rw c.add.ensures (record { re = omega (arith, ints, first.re, second.re); im = omega (arith, ints, first.im, second.im) }))
