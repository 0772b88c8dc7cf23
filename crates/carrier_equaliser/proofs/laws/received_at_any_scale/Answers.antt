use Rattle.carrier_equaliser.proofs.ComingBack.{at_any_scale}
use Rattle.carrier_equaliser.proofs.laws.received_at_any_scale.Goals as goal

pub returns : goal.returns
returns c = at_any_scale
