use Rattle.std.proofs.Common.{◌≡◌, ◌*◌, ◌^◌, length}
use Rattle.lane_kernels.specs.Kernels.{power_of}
use Rattle.lane_kernels.specs.Lanes.{total_below, total_of}
use Rattle.fixed_complex.specs.Numbers.{NumbersWithin}
use Rattle.fixed_complex.specs.Samples.{sample_at}
use Rattle.lane_kernels.proofs.powers.lane_powers.Given as goal

abbrev pub invariant-loop-k : goal.invariant-loop-k
invariant-loop-k l = record {
  long : length l.sums ≡ 4;
  so_far : total_of l.sums ≡ total_below (4 * l.k) (λ n. power_of (sample_at l.a n));
  within : NumbersWithin (2 ^ 31 * l.k) l.sums;
}
