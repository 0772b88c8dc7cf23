use Rattle.std.proofs.Common.{◌*ℤ◌, ◌∙◌, arith}
use Rattle.lane_kernels.proofs.LaneSums.{eight_by}
use Rattle.lane_kernels.proofs.WordLanes.{products_fit, products_are}
use Rattle.lane_kernels.proofs.lanes.products.Goals as goal

pub overflow_mul-result : goal.overflow_mul-result
overflow_mul-result c = products_fit c.args.x c.args.y c.requires.x c.requires.y

pub returns : goal.returns
returns c =
    products_are c.args.x c.args.y c.requires.x c.requires.y ∙ eight_by ◌*ℤ◌ c.args.x c.args.y (omega arith) (omega arith)
