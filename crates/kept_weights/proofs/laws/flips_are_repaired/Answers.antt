use Rattle.kept_weights.proofs.Nearest.{flips_repaired, flips_counted}
use Rattle.kept_weights.proofs.laws.flips_are_repaired.Goals as goal

pub returns-clause-list : goal.returns-clause-list
returns-clause-list c = flips_repaired

pub returns-clause-distance : goal.returns-clause-distance
returns-clause-distance c = flips_counted
