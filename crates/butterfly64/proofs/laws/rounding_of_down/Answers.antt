use Rattle.butterfly64.proofs.DownBudget.{near_down_sums}
use Rattle.butterfly64.proofs.laws.rounding_of_down.Goals as goal

pub returns : goal.returns
returns c = near_down_sums
