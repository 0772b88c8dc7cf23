use Rattle.std.proofs.Common.{◌≡◌, length}
use Rattle.survivor_memory.proofs.tests.nearest_of_all_lists.Given as goal

abbrev pub invariant-loop-pairs : goal.invariant-loop-pairs
invariant-loop-pairs g l = record { empty : length l.memory.rows ≡ 0; room : l.memory.room ≡ 12 }
