use Rattle.butterfly64.proofs.SampleBudgets.{near_received, size_received}
use Rattle.butterfly64.proofs.laws.received_carriers.Goals as goal

pub returns-clause-near : goal.returns-clause-near
returns-clause-near c = near_received

pub returns-clause-size : goal.returns-clause-size
returns-clause-size c = size_received
