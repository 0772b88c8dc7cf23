use Rattle.std.proofs.Common.{◌≡◌, ℕ, ◌<◌, length}
use Rattle.fixed_complex.specs.PairLists.{entry}
use Rattle.symbol_builder.proofs.Bins.{placed}
use Rattle.symbol_builder.proofs.samples.put_carriers.Given as goal

abbrev pub invariant-loop-k : goal.invariant-loop-k
invariant-loop-k l = record {
  long : length l.carriers ≡ 64;
  each : (bin : ℕ) → bin < 64 → entry l.carriers bin ≡ placed l.points l.n l.k bin;
}
