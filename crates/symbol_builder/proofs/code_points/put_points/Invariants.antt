use Rattle.std.proofs.Common.{◌≡◌, ℕ, ◌<◌, length, map, slice_index, slice_index_or}
use Rattle.fixed_complex.specs.Pairs.{IsWithin, zero_pair}
use Rattle.symbol_builder.specs.Points.{point_at}
use Rattle.symbol_builder.proofs.code_points.put_points.Given as goal

abbrev pub invariant-loop-d : goal.invariant-loop-d
invariant-loop-d l = record {
  points : (k : ℕ) → k < l.d → slice_index_or l.points k zero_pair ≡ point_at l.modulation (map (slice_index l.code) l.places) k;
  within : (k : ℕ) → k < l.d → IsWithin 700 (slice_index_or l.points k zero_pair);
  long : length l.points ≡ 48;
}
