use Rattle.std.proofs.Common.{◌≡◌, ℕ, ◌+◌, ◌*◌, ◌<◌, length}
use Rattle.fixed_complex.specs.PairLists.{entry}
use Rattle.fixed_complex.specs.Pairs.{rounded_pair}
use Rattle.butterfly64.specs.Rows.{row_lane}
use Rattle.carrier_equaliser.proofs.put_carriers.Given as goal

abbrev pub invariant-loop-l : goal.invariant-loop-l
invariant-loop-l l = record {
  long : length l.carriers ≡ 64;
  put : (k : ℕ) → k < l.l → entry l.carriers (8 * l.r + k) ≡ rounded_pair 8 (row_lane l.sums k);
  before : (n : ℕ) → n < 8 * l.r → entry l.carriers n ≡ entry l.fn.carriers n;
}
