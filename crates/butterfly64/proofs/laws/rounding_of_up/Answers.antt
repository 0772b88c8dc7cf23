use Rattle.butterfly64.proofs.UpBudget.{near_up_sums}
use Rattle.butterfly64.proofs.laws.rounding_of_up.Goals as goal

pub returns : goal.returns
returns c = near_up_sums
