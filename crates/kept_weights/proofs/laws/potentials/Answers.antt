use Rattle.kept_weights.proofs.Potential.{each_is_potential}
use Rattle.kept_weights.proofs.laws.potentials.Goals as goal

pub returns : goal.returns
returns c = each_is_potential
