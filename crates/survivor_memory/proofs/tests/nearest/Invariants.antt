use Rattle.std.proofs.Common.{◌≡◌, length}
use Rattle.survivor_memory.proofs.tests.nearest.Given as goal

abbrev pub invariant-loop-first : goal.invariant-loop-first
invariant-loop-first l = record {
  held : length l.memory.rows ≡ l.first-index;
  room : l.memory.room ≡ l.fn.memory.room;
}
