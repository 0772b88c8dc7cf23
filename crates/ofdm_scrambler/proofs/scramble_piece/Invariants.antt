use Rattle.std.proofs.Common.{◌≡◌, ℕ, ◌+◌, ◌<◌, ◌≤◌, slice_index, bit_xor}
use Rattle.ofdm_scrambler.proofs.scramble_piece.Given as goal

abbrev pub invariant-loop-k : goal.invariant-loop-k
invariant-loop-k l = record {
  changed : (j : ℕ) → j < l.k → slice_index l.bits (l.place + j) ≡ bit_xor (slice_index l.fn.bits (l.place + j)) (slice_index l.period j);
  before : (n : ℕ) → n < l.place → slice_index l.bits n ≡ slice_index l.fn.bits n;
  behind : (n : ℕ) → l.place + l.k ≤ n → slice_index l.bits n ≡ slice_index l.fn.bits n;
}
