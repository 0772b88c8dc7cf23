use Rattle.std.proofs.Common.{◌≡◌, ℕ, ◌+◌, ◌*◌, ◌<◌, length}
use Rattle.fixed_complex.specs.PairLists.{entry}
use Rattle.butterfly64.specs.Rows.{row_in, row_lane}
use Rattle.butterfly64.proofs.stages.rows_of.Given as goal

abbrev pub invariant-loop-r : goal.invariant-loop-r
invariant-loop-r l = record {
  long : length l.rows ≡ 8;
  done : (k m : ℕ) → k < l.r → m < 8 → row_lane (row_in l.rows k) m ≡ entry l.x (8 * k + m);
}
