use Rattle.std.proofs.Common.{◌≡◌, length}
use Rattle.soft_trellis.proofs.tests.held_pairs.Given as goal

abbrev pub invariant-loop-number : goal.invariant-loop-number
invariant-loop-number g l = record {
  held : length l.trellis.rows ≡ l.number-index;
  room : l.trellis.room ≡ 6;
}
