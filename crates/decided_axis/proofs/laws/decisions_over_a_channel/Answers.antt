use Rattle.decided_axis.proofs.Rightly.{decided_rightly}
use Rattle.decided_axis.proofs.laws.decisions_over_a_channel.Goals as goal

pub returns : goal.returns
returns c = decided_rightly
