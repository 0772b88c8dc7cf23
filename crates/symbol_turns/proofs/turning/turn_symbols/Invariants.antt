use Rattle.std.proofs.Common.{◌≡◌, ℕ, ◌<◌, ◌≤◌, length}
use Rattle.fixed_complex.specs.Samples.{sample_at}
use Rattle.symbol_turns.specs.Turning.{turned_at}
use Rattle.symbol_turns.proofs.turning.turn_symbols.Given as goal

abbrev pub invariant-loop-place : goal.invariant-loop-place
invariant-loop-place l = record {
  turned : (k : ℕ) → k < l.place → k < length l.fn.samples → sample_at l.samples k ≡ turned_at l.fn.start l.fn.step l.fn.samples k;
  left : (k : ℕ) → l.place ≤ k → sample_at l.samples k ≡ sample_at l.fn.samples k;
}
