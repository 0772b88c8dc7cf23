use Rattle.std.proofs.Common.{◌≡◌, ℕ, ◌/◌, ◌%◌, ◌<◌, length}
use Rattle.butterfly64.specs.Lanes.{lane, eight_in}
use Rattle.fixed_complex.specs.PairLists.{entry}
use Rattle.butterfly64.proofs.many_eights.pairs.Given as goal

abbrev pub invariant-loop-n : goal.invariant-loop-n
invariant-loop-n l = record {
  long : length l.pairs ≡ 64;
  done : (k : ℕ) → k < l.n → entry l.pairs k ≡ lane (eight_in l.x (k / 8)) (k % 8);
}
