use Rattle.std.proofs.Common.{◌≡◌, ℕ, ◌*◌, ◌<◌, length}
use Rattle.fixed_complex.specs.PairLists.{entry}
use Rattle.fixed_complex.specs.Samples.{pair_at}
use Rattle.carrier_equaliser.specs.Received.{received_at}
use Rattle.carrier_equaliser.proofs.carriers_of.Given as goal

abbrev pub invariant-loop-r : goal.invariant-loop-r
invariant-loop-r l = record {
  long : length l.carriers ≡ 64;
  done : (n : ℕ) → n < 8 * l.r → entry l.carriers n ≡ received_at (pair_at l.body) n;
}
