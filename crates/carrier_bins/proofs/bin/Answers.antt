use Rattle.std.proofs.Common.{arith}
use Rattle.std.proofs.lemmas.Int.{ints, to_z-of_z}
use Rattle.carrier_bins.specs.Carriers.{bin_of}
use Rattle.carrier_bins.proofs.bin.Goals as goal

pub returns-clause-bin : goal.returns-clause-bin
unfolding bin_of
returns-clause-bin c = grind (arith, ints, to_z-of_z, c.rem_euclid.ensures.value)
