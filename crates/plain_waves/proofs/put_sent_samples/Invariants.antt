use Rattle.std.proofs.Common.{◌≡◌, ℕ, ◌*◌, ◌<◌, length}
use Rattle.plain_waves.specs.Bodies.{sent_body}
use Rattle.fixed_complex.specs.PairLists.{entry}
use Rattle.fixed_complex.specs.Samples.{sample_at}
use Rattle.plain_waves.proofs.put_sent_samples.Given as goal

abbrev pub invariant-loop-r : goal.invariant-loop-r
invariant-loop-r l = record {
  long : length l.samples ≡ 64;
  done : (n : ℕ) → n < 8 * l.r → sample_at l.samples n ≡ sent_body (entry l.carriers) n;
}
