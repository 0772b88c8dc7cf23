use Rattle.survivor_memory.proofs.Order.{one_first}
use Rattle.survivor_memory.specs.Costs.{cost}
use Rattle.survivor_memory.proofs.laws.one_nearest.Goals as goal

pub returns : goal.returns
returns c = λ pairs. one_first _ (cost pairs)
