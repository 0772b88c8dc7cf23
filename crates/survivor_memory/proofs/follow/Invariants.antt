use Rattle.std.proofs.Common.{◌≡◌, ◌<◌, ◌++◌, length, drop}
use Rattle.survivor_memory.specs.Survivors.{followed}
use Rattle.survivor_memory.proofs.follow.Given as goal

abbrev pub invariant-loop-place : goal.invariant-loop-place
invariant-loop-place l = record {
  state : l.state < 64;
  written : followed l.rows l.place l.state ++ drop l.place l.out ≡ followed l.rows (length l.rows) 0;
}
