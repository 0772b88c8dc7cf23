use Rattle.std.proofs.Common.{◌≡◌, ℕ, ◌+◌, ◌*◌, ◌<◌, length}
use Rattle.butterfly64.specs.Lanes.{lane, eight_in}
use Rattle.fixed_complex.specs.PairLists.{entry}
use Rattle.butterfly64.proofs.many_eights.eights.Given as goal

abbrev pub invariant-loop-c : goal.invariant-loop-c
invariant-loop-c l = record {
  long : length l.eights ≡ 8;
  done : (k m : ℕ) → k < l.c → m < 8 → lane (eight_in l.eights k) m ≡ entry l.x (8 * k + m);
}
