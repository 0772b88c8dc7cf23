use Rattle.std.proofs.Common.{◌≡◌, ◌+◌, ◌*◌, ◌≤◌, length, drop}
use Rattle.std.specs.Slice.Iter.{chunks_rest, chunks_size}
use Rattle.plain_waves.specs.Bodies.{sent_body}
use Rattle.rate_table.specs.Table.{row_of}
use Rattle.frame_fields.proofs.Begun.{begun_frame}
use Rattle.frame_fields.proofs.frames.frame_samples.Given as goal

abbrev pub invariant-loop-symbol : goal.invariant-loop-symbol
invariant-loop-symbol l = record {
  size : chunks_size l.symbol-iterator ≡ (row_of l.rate).coded_bits;
  rest : chunks_rest l.symbol-iterator ≡ drop (l.n * (row_of l.rate).coded_bits) (chunks_rest l.initial.symbol-iterator);
  within : l.n * (row_of l.rate).coded_bits ≤ length (chunks_rest l.initial.symbol-iterator);
  samples : l.samples.items ≡ begun_frame sent_body l.rate l.fn.seed l.psdu (l.n + 1);
  len : length l.samples.items ≡ 400 + 80 * l.n;
}
