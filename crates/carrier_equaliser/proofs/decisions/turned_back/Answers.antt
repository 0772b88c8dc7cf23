use Rattle.std.proofs.Common.{◌^◌}
use Rattle.fixed_complex.specs.Pairs.{IsWithin}
use Rattle.fixed_complex.proofs.PairSizes.{within-conjugate, within-times}
use Rattle.carrier_equaliser.proofs.decisions.turned_back.Goals as goal

pub returns-clause-within : goal.returns-clause-within
returns-clause-within c =
    let channel : IsWithin (2 ^ 23) c.conj.result = rw c.conj.ensures (within-conjugate (2 ^ 23) c.args.channel c.requires.channel) in
    rw c.mul.ensures (within-times (2 ^ 22) (2 ^ 23) c.args.carrier c.conj.result c.requires.carrier channel)
