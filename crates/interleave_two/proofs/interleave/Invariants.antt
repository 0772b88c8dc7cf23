use Rattle.std.proofs.Common.{◌≡◌, ℕ, ◌<◌, ◌≤◌, length, slice_index}
use Rattle.interleave_two.specs.Place.{source_of}
use Rattle.interleave_two.proofs.interleave.Given as goal

abbrev pub invariant-loop-j : goal.invariant-loop-j
invariant-loop-j l = record {
  long : length l.places ≡ 288;
  read : (m : ℕ) → m < l.j → slice_index l.places m ≡ slice_index l.bits (source_of l.fn.rate m);
  rest : (m : ℕ) → l.j ≤ m → slice_index l.places m ≡ 0;
}
