use Rattle.survivor_memory.proofs.Holding.{entries_differ}
use Rattle.survivor_memory.proofs.SurvivorMemory.step.Goals as goal

pub returns-clause-appended : goal.returns-clause-appended
returns-clause-appended c = λ pairs costs branches light holds.
    c.step_by.ensures.appended pairs costs (record { lower = branches.lower; higher = branches.higher }) light holds

pub returns-clause-differ : goal.returns-clause-differ
returns-clause-differ c = λ pairs bound. entries_differ c.args.most _ pairs bound
