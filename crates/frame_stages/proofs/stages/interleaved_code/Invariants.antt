use Rattle.std.proofs.Common.{◌≡◌, ◌*◌, ◌≤◌, length, drop}
use Rattle.std.specs.Slice.Iter.{chunks_rest, chunks_size}
use Rattle.bit_lists.specs.Bits.{AreBits}
use Rattle.interleave_two.specs.Place.{interleaved_symbols}
use Rattle.rate_table.specs.Table.{row_of}
use Rattle.frame_stages.proofs.stages.interleaved_code.Given as goal

abbrev pub invariant-loop-symbol : goal.invariant-loop-symbol
invariant-loop-symbol l = record {
  size : chunks_size l.symbol-iterator ≡ (row_of l.rate).coded_bits;
  rest : chunks_rest l.symbol-iterator ≡ drop (length l.yielded * (row_of l.rate).coded_bits) (chunks_rest l.initial.symbol-iterator);
  within : length l.yielded * (row_of l.rate).coded_bits ≤ length (chunks_rest l.initial.symbol-iterator);
  so_far : l.bits.items ≡ interleaved_symbols l.rate (length l.yielded) (chunks_rest l.initial.symbol-iterator);
  bits : AreBits l.bits.items;
}
