use Rattle.kept_weights.proofs.Heavy.{heavy_with_one}
use Rattle.kept_weights.proofs.laws.least_kept_weight.Goals as goal

pub returns : goal.returns
returns c = heavy_with_one
