use Rattle.constellations.proofs.AxisSizes.{small_axis}
use Rattle.constellations.proofs.laws.sizes_of_axes.Goals as goal

pub returns : goal.returns
returns c = small_axis
