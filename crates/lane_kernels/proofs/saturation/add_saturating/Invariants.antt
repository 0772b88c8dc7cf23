use Rattle.std.proofs.Common.{◌≡◌, ◌*◌, length}
use Rattle.lane_kernels.specs.Lanes.{HoldsSums}
use Rattle.lane_kernels.proofs.saturation.add_saturating.Given as goal

abbrev pub invariant-loop-k : goal.invariant-loop-k
invariant-loop-k l = record {
  len : length l.a ≡ length l.fn.a;
  sums : HoldsSums 0 (8 * l.k) l.fn.a l.b l.a;
}
