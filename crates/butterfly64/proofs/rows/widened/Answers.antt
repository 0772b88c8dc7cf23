use Rattle.butterfly64.proofs.RowLanes.{widened-is}
use Rattle.butterfly64.proofs.rows.widened.Goals as goal

pub returns : goal.returns
returns c = widened-is c.args.x c.requires
