use Rattle.kept_weights.proofs.Apart.{far_where_other}
use Rattle.kept_weights.proofs.laws.least_distance.Goals as goal

pub returns : goal.returns
returns c = far_where_other
