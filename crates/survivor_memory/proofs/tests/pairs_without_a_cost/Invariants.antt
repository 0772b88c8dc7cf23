use Rattle.std.proofs.Common.{◌≡◌, length}
use Rattle.survivor_memory.proofs.tests.pairs_without_a_cost.Given as goal

abbrev pub invariant-loop-costs : goal.invariant-loop-costs
invariant-loop-costs g l = record { held : length l.memory.rows ≡ l.costs-index; room : l.memory.room ≡ 6 }
