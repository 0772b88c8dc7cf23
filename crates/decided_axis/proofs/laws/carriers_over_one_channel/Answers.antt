use Rattle.decided_axis.proofs.Waves.{carried_by_one}
use Rattle.decided_axis.proofs.laws.carriers_over_one_channel.Goals as goal

pub returns : goal.returns
returns c = carried_by_one
