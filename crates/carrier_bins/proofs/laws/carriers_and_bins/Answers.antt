use Rattle.carrier_bins.proofs.Bins.{bin_back, carrier_back}
use Rattle.carrier_bins.proofs.laws.carriers_and_bins.Goals as goal

pub returns-clause-bin : goal.returns-clause-bin
returns-clause-bin c = bin_back

pub returns-clause-carrier : goal.returns-clause-carrier
returns-clause-carrier c = carrier_back
