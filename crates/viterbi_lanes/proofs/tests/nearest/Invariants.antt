use Rattle.std.proofs.Common.{◌≡◌, length}
use Rattle.viterbi_lanes.proofs.tests.nearest.Given as goal

abbrev pub invariant-loop-a : goal.invariant-loop-a
invariant-loop-a l = record {
  held : length l.trellis.rows ≡ l.a-index;
  room : l.trellis.room ≡ l.fn.trellis.room;
}
