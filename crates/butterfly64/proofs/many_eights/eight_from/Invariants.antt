use Rattle.std.proofs.Common.{◌≡◌, ℕ, ◌+◌, ◌<◌, length}
use Rattle.butterfly64.specs.Lanes.{lane}
use Rattle.fixed_complex.specs.PairLists.{entry}
use Rattle.butterfly64.proofs.many_eights.eight_from.Given as goal

abbrev pub invariant-loop-l : goal.invariant-loop-l
invariant-loop-l l = record {
  re_long : length l.eight.re ≡ 8;
  im_long : length l.eight.im ≡ 8;
  done : (k : ℕ) → k < l.l → lane l.eight k ≡ entry l.x (l.place + k);
}
