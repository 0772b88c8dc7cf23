use Rattle.std.proofs.Common.{◌≡◌, ◌*◌, ◌≤◌, length, drop}
use Rattle.std.specs.List.{range_with_len, flat_map}
use Rattle.std.specs.Slice.Iter.{chunks_rest, chunks_size}
use Rattle.interleave_two.specs.Place.{symbol_bits}
use Rattle.rate_table.specs.Table.{row_of}
use Rattle.symbol_builder.specs.Points.{points_of_code}
use Rattle.frame_stages.proofs.stages.points.Given as goal

abbrev pub invariant-loop-symbol : goal.invariant-loop-symbol
invariant-loop-symbol l = record {
  size : chunks_size l.symbol-iterator ≡ (row_of l.rate).coded_bits;
  rest : chunks_rest l.symbol-iterator ≡ drop (length l.yielded * (row_of l.rate).coded_bits) (chunks_rest l.initial.symbol-iterator);
  within : length l.yielded * (row_of l.rate).coded_bits ≤ length (chunks_rest l.initial.symbol-iterator);
  so_far : l.points.items ≡ flat_map (λ m. points_of_code l.rate (symbol_bits l.rate (chunks_rest l.initial.symbol-iterator) m)) (range_with_len 0 (length l.yielded));
}
