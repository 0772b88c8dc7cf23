use Rattle.std.proofs.Common.{◌≡◌, ℕ, ◌+◌, ◌*◌, ◌<◌, length}
use Rattle.fixed_complex.specs.PairLists.{by_256, entry}
use Rattle.butterfly64.specs.Rows.{row_lane}
use Rattle.plain_waves.proofs.row_by_256.Given as goal

abbrev pub invariant-loop-l : goal.invariant-loop-l
invariant-loop-l l = record {
  re_long : length l.row.re ≡ 8;
  im_long : length l.row.im ≡ 8;
  done : (k : ℕ) → k < l.l → row_lane l.row k ≡ by_256 (entry l.carriers) (8 * l.r + k);
}
