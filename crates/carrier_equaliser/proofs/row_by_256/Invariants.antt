use Rattle.std.proofs.Common.{◌≡◌, ℕ, ◌+◌, ◌^◌, ◌<◌, length}
use Rattle.fixed_complex.specs.PairLists.{by_256}
use Rattle.fixed_complex.specs.Pairs.{IsWithin}
use Rattle.fixed_complex.specs.Samples.{pair_at}
use Rattle.butterfly64.specs.Rows.{row_lane}
use Rattle.carrier_equaliser.proofs.row_by_256.Given as goal

abbrev pub invariant-loop-l : goal.invariant-loop-l
invariant-loop-l l = record {
  re_long : length l.row.re ≡ 8;
  im_long : length l.row.im ≡ 8;
  done : (k : ℕ) → k < l.l → row_lane l.row k ≡ by_256 (pair_at l.samples) (l.place + k);
  of_16_bits : (k : ℕ) → k < l.l → IsWithin (2 ^ 15) (pair_at l.samples (l.place + k));
}
