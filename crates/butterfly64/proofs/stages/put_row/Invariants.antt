use Rattle.std.proofs.Common.{◌≡◌, ℕ, ◌+◌, ◌*◌, ◌<◌, length}
use Rattle.fixed_complex.specs.PairLists.{entry}
use Rattle.butterfly64.specs.Rows.{row_lane}
use Rattle.butterfly64.proofs.stages.put_row.Given as goal

abbrev pub invariant-loop-l : goal.invariant-loop-l
invariant-loop-l l = record {
  long : length l.pairs ≡ 64;
  put : (k : ℕ) → k < l.l → entry l.pairs (8 * l.r + k) ≡ row_lane l.row k;
  before : (n : ℕ) → n < 8 * l.r → entry l.pairs n ≡ entry l.fn.pairs n;
}
