use Rattle.decided_axis.proofs.Waves.{carried_by_wave}
use Rattle.decided_axis.proofs.laws.carriers_of_a_wave.Goals as goal

pub returns : goal.returns
returns c = carried_by_wave
