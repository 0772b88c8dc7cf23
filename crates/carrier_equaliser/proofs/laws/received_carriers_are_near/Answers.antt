use Rattle.carrier_equaliser.proofs.ComingBack.{received_are_near}
use Rattle.carrier_equaliser.proofs.laws.received_carriers_are_near.Goals as goal

pub returns : goal.returns
returns c = received_are_near
