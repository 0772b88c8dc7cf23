use Rattle.symbol_builder.proofs.PointSizes.{small_points}
use Rattle.symbol_builder.proofs.laws.sizes_of_points.Goals as goal

pub returns : goal.returns
returns c = small_points
