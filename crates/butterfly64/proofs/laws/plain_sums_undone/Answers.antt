use Rattle.butterfly64.proofs.PlainBack.{near_carrier}
use Rattle.butterfly64.proofs.laws.plain_sums_undone.Goals as goal

pub returns : goal.returns
returns c = λ x within d below. near_carrier d below x within
