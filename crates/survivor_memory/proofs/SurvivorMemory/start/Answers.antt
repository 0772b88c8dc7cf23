use Rattle.std.proofs.Common.{refl}
use Rattle.survivor_memory.proofs.Starting.{AreEntries-start, holds_none}
use Rattle.survivor_memory.proofs.SurvivorMemory.start.Goals as goal

pub returns-clause-holds : goal.returns-clause-holds
returns-clause-holds c = λ most. holds_none most _ c.entries_at_start-self-inside.ensures refl refl

pub returns-clause-entries : goal.returns-clause-entries
returns-clause-entries c = AreEntries-start _ c.entries_at_start-self-inside.ensures
