use Rattle.std.proofs.Common.{◌≡◌, ℕ, ◌<◌, ◌≤◌, length, slice_index}
use Rattle.interleave_two.specs.Place.{interleaved_place}
use Rattle.interleave_two.proofs.deinterleave.Given as goal

abbrev pub invariant-loop-k : goal.invariant-loop-k
invariant-loop-k l = record {
  long : length l.order ≡ 288;
  read : (m : ℕ) → m < l.k → slice_index l.order m ≡ slice_index l.bits (interleaved_place l.fn.rate m);
  rest : (m : ℕ) → l.k ≤ m → slice_index l.order m ≡ 0;
}
