use Rattle.std.proofs.Common.{◌^◌}
use Rattle.fixed_complex.specs.Pairs.{zero_pair}
use Rattle.fixed_complex.specs.PairLists.{PairsWithin}
use Rattle.integer_laws.proofs.Filled.{IsFilled}
use Rattle.carrier_equaliser.specs.Estimates.{estimate_at}
use Rattle.carrier_equaliser.proofs.channel.Estimate.from_long.Given as goal

abbrev pub invariant-loop-bin : goal.invariant-loop-bin
invariant-loop-bin l = record {
  filled : IsFilled zero_pair (estimate_at l.first l.second) 64 l.bin l.bins;
  within : PairsWithin (2 ^ 23) l.bins;
}
