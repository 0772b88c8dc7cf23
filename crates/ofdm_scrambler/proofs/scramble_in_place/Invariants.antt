use Rattle.std.proofs.Common.{◌≡◌, ℕ, ◌*◌, ◌<◌, ◌≤◌, length, slice_index}
use Rattle.bit_lists.specs.Bits.{exclusive_or}
use Rattle.ofdm_scrambler.specs.Sequence.{scrambler_bit}
use Rattle.ofdm_scrambler.proofs.scramble_in_place.Given as goal

abbrev pub invariant-loop-begun : goal.invariant-loop-begun
invariant-loop-begun l = record {
  changed : (n : ℕ) → n < 127 * l.begun → n < length l.fn.bits → slice_index l.bits n ≡ exclusive_or (slice_index l.fn.bits n) (scrambler_bit l.fn.seed n);
  kept : (n : ℕ) → 127 * l.begun ≤ n → slice_index l.bits n ≡ slice_index l.fn.bits n;
}
