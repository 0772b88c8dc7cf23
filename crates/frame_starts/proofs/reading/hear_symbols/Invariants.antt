use Rattle.std.proofs.Common.{◌≡◌, ◌+◌, ◌*◌, ◌≤◌, length}
use Rattle.rate_table.specs.Table.{row_of}
use Rattle.viterbi_lanes.specs.Decisions.{carried_steps, marks_of}
use Rattle.viterbi_lanes.specs.Marks.{StandsFor}
use Rattle.frame_reader.specs.Decisions.{decisions_by}
use Rattle.frame_reader.specs.Frames.{data_decisions}
use Rattle.frame_starts.proofs.reading.hear_symbols.Given as goal

abbrev pub invariant-loop-symbol : goal.invariant-loop-symbol
invariant-loop-symbol g l = record {
  held : length l.trellis.rows ≡ carried_steps l.header.rate l.header.length l.symbol;
  room : l.trellis.room ≡ l.initial.trellis.room;
  as_many : length (data_decisions (decisions_by g.D.Decider.decided l.samples) l.header.rate l.symbol)
      ≡ l.symbol * (row_of l.header.rate).coded_bits;
  stands : StandsFor l.trellis
      (marks_of (row_of l.header.rate).code_rate
      (data_decisions (decisions_by g.D.Decider.decided l.samples) l.header.rate l.symbol)
      (carried_steps l.header.rate l.header.length l.symbol));
  counted : l.steps ≤ l.initial.steps + 217 * l.symbol;
}
