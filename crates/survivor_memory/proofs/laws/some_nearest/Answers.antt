use Rattle.survivor_memory.proofs.Existing.{some_nearest}
use Rattle.survivor_memory.proofs.laws.some_nearest.Goals as goal

pub returns : goal.returns
returns c = some_nearest
