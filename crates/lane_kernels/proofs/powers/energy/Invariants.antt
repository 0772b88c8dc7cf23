use Rattle.std.proofs.Common.{◌≡◌, ◌+◌, ◌*◌, ◌^◌, ◌≤◌}
use Rattle.std.specs.Prelude.{unsigned_abs}
use Rattle.lane_kernels.specs.Kernels.{power_of}
use Rattle.lane_kernels.specs.Lanes.{total_below}
use Rattle.fixed_complex.specs.Samples.{sample_at}
use Rattle.lane_kernels.proofs.powers.energy.Given as goal

abbrev pub invariant-loop-n : goal.invariant-loop-n
invariant-loop-n l = record {
  so_far : l.energy ≡ total_below l.n (λ n. power_of (sample_at l.a n));
  within : unsigned_abs l.energy ≤ 2 ^ 55 + 2 ^ 31 * l.n;
}
