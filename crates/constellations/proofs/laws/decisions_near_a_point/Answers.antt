use Rattle.constellations.proofs.Nearness.{gives_back}
use Rattle.constellations.proofs.Backs.{near_gives_back, exact_gives_back}
use Rattle.constellations.proofs.laws.decisions_near_a_point.Goals as goal

pub returns-clause-axis : goal.returns-clause-axis
returns-clause-axis c = λ modulation bits part m are long. gives_back modulation bits are long part m

pub returns-clause-near : goal.returns-clause-near
returns-clause-near c = near_gives_back

pub returns-clause-exact : goal.returns-clause-exact
returns-clause-exact c = exact_gives_back
