use Rattle.fixed_complex.specs.Pairs.{zero_pair}
use Rattle.carrier_bins.specs.Bins.{by_bin}
use Rattle.training_fields.specs.Training.{short_carrier}
use Rattle.integer_laws.proofs.Filled.{IsFilled}
use Rattle.training_fields.proofs.short_carriers.Given as goal

abbrev pub invariant-loop-bin : goal.invariant-loop-bin
invariant-loop-bin l = IsFilled zero_pair (by_bin short_carrier) 64 l.bin l.carriers
