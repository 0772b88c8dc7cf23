use Rattle.std.proofs.Common.{arith}
use Rattle.std.proofs.lemmas.Int.{ints}
use Rattle.lane_kernels.proofs.LaneSums.{power_kept, power-le}
use Rattle.lane_kernels.proofs.powers.power.Goals as goal

pub returns-clause-value : goal.returns-clause-value
returns-clause-value c =
    power_kept c.from-i.result c.from-q.result c.args.sample.i c.args.sample.q (omega (arith, ints)) (omega (arith, ints)) (omega (arith, ints)) (omega (arith, ints))

pub returns-clause-within : goal.returns-clause-within
returns-clause-within c =
    rw (returns-clause-value c) (power-le c.args.sample.i c.args.sample.q (omega (arith, ints)) (omega (arith, ints)))
