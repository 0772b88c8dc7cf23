use Rattle.std.proofs.Common.{◌≡◌, ℕ, ◌*◌, ◌<◌, length}
use Rattle.fixed_complex.specs.PairLists.{entry}
use Rattle.butterfly64.specs.Rows.{place_in}
use Rattle.butterfly64.proofs.stages.row_pairs.Given as goal

abbrev pub invariant-loop-r : goal.invariant-loop-r
invariant-loop-r l = record {
  long : length l.pairs ≡ 64;
  done : (k : ℕ) → k < 8 * l.r → entry l.pairs k ≡ place_in l.x k;
}
