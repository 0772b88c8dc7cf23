use Rattle.survivor_memory.proofs.Branches.{sum_of_two}
use Rattle.survivor_memory.proofs.Holding.{entries_differ}
use Rattle.survivor_memory.specs.Costs.{both_costs}
use Rattle.survivor_memory.proofs.SurvivorMemory.step_of_two.Goals as goal

pub returns-clause-appended : goal.returns-clause-appended
returns-clause-appended c = λ pairs costs others first second light holds.
    c.step_by.ensures.appended pairs (both_costs costs others)
    (record {
      lower = λ s h. sum_of_two costs others _ _ _ _ _ c.args.most (c.requires.light) light (first.lower s h) (second.lower s h) (c.sums-lower.ensures s h);
      higher = λ s h. sum_of_two costs others _ _ _ _ _ c.args.most (c.requires.light) light (first.higher s h) (second.higher s h) (c.sums-higher.ensures s h);
    })
    light
    holds

pub returns-clause-differ : goal.returns-clause-differ
returns-clause-differ c = λ pairs bound. entries_differ c.args.most _ pairs bound
