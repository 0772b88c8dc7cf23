use Rattle.std.proofs.Common.{◌≡◌, ℕ, ◌<◌, get_or}
use Rattle.ofdm_scrambler.specs.Sequence.{scrambler_bit}
use Rattle.ofdm_scrambler.proofs.LastSeven.{HoldsBefore}
use Rattle.ofdm_scrambler.proofs.sequence.Given as goal

abbrev pub invariant-loop-bit : goal.invariant-loop-bit
invariant-loop-bit l = record {
  held : HoldsBefore l.fn.seed l.bit-index l.register.bits;
  written : (k : ℕ) → k < l.bit-index → get_or l.out k 0 ≡ scrambler_bit l.fn.seed k;
}
