use Rattle.std.proofs.Common.{◌≡◌, ℕ, ◌+◌, ◌*◌, ◌<◌, length}
use Rattle.fixed_complex.specs.PairLists.{by_256, entry}
use Rattle.butterfly64.specs.Rows.{row_in, row_lane}
use Rattle.plain_waves.proofs.rows_by_256.Given as goal

abbrev pub invariant-loop-r : goal.invariant-loop-r
invariant-loop-r l = record {
  long : length l.rows ≡ 8;
  done : (k m : ℕ) → k < l.r → m < 8 → row_lane (row_in l.rows k) m ≡ by_256 (entry l.carriers) (8 * k + m);
}
