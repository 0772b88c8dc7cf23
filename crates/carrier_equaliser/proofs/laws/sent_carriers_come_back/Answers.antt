use Rattle.carrier_equaliser.proofs.ComingBack.{comes_back, parts_come_back}
use Rattle.carrier_equaliser.proofs.laws.sent_carriers_come_back.Goals as goal

pub returns-clause-size : goal.returns-clause-size
returns-clause-size c = comes_back

pub returns-clause-within : goal.returns-clause-within
returns-clause-within c = parts_come_back
