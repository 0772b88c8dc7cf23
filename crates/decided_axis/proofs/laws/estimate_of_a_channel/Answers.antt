use Rattle.decided_axis.proofs.Channels.{by_two}
use Rattle.decided_axis.proofs.laws.estimate_of_a_channel.Goals as goal

pub returns : goal.returns
returns c = by_two
