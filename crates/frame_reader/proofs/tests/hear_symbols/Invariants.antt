use Rattle.std.proofs.Common.{◌≡◌, length}
use Rattle.viterbi_lanes.specs.Decisions.{carried_steps}
use Rattle.frame_reader.proofs.tests.hear_symbols.Given as goal

abbrev pub invariant-loop-symbol : goal.invariant-loop-symbol
invariant-loop-symbol l = record {
  held : length l.trellis.rows ≡ carried_steps l.header.rate l.header.length l.symbol;
  room : l.trellis.room ≡ l.initial.trellis.room;
}
