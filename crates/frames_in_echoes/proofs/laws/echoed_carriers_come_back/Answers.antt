use Rattle.frames_in_echoes.proofs.Parts.{long_bodies_come_back, symbols_come_back}
use Rattle.frames_in_echoes.proofs.laws.echoed_carriers_come_back.Goals as goal

pub returns-clause-long_bodies : goal.returns-clause-long_bodies
returns-clause-long_bodies c = long_bodies_come_back

pub returns-clause-symbols : goal.returns-clause-symbols
returns-clause-symbols c = symbols_come_back
