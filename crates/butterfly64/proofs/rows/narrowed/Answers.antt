use Rattle.butterfly64.proofs.RowLanes.{narrowed-fit, narrowed-is}
use Rattle.butterfly64.proofs.rows.narrowed.Goals as goal

pub overflow_cast-result : goal.overflow_cast-result
overflow_cast-result c = narrowed-fit c.args.x c.requires

pub returns : goal.returns
returns c = narrowed-is c.args.x c.requires
