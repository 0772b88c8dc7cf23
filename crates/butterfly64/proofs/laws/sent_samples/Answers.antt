use Rattle.butterfly64.proofs.SampleBudgets.{near_sent}
use Rattle.butterfly64.proofs.laws.sent_samples.Goals as goal

pub returns : goal.returns
returns c = near_sent
