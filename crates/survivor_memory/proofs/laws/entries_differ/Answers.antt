use Rattle.survivor_memory.proofs.Holding.{entries_differ}
use Rattle.survivor_memory.proofs.laws.entries_differ.Goals as goal

pub returns : goal.returns
returns c = entries_differ
