use Rattle.decided_axis.proofs.Points.{point_size}
use Rattle.decided_axis.proofs.laws.sizes_of_whole_points.Goals as goal

pub returns : goal.returns
returns c = point_size
