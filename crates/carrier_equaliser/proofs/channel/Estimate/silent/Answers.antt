use Rattle.std.proofs.Common.{◌^◌}
use Rattle.fixed_complex.proofs.PairLists.{within-zeros}
use Rattle.carrier_equaliser.proofs.channel.Estimate.silent.Goals as goal

pub invariant_of-result : goal.invariant_of-result
invariant_of-result c = within-zeros (2 ^ 23) 64
