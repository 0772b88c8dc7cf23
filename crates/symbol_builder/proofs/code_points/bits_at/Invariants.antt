use Rattle.std.proofs.Common.{◌≡◌, length, map, take, slice_index}
use Rattle.bit_lists.specs.Bits.{AreBits}
use Rattle.symbol_builder.proofs.code_points.bits_at.Given as goal

abbrev pub invariant-loop-j : goal.invariant-loop-j
invariant-loop-j l = record {
  long : length l.bits ≡ 6;
  list : take l.j l.bits ≡ map (slice_index l.code) (take l.j l.places);
  bits : AreBits l.bits;
}
