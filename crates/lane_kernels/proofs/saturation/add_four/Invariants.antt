use Rattle.std.proofs.Common.{◌≡◌, ◌+◌, length}
use Rattle.lane_kernels.specs.Lanes.{HoldsSums}
use Rattle.lane_kernels.proofs.saturation.add_four.Given as goal

abbrev pub invariant-loop-n : goal.invariant-loop-n
invariant-loop-n l = record {
  len : length l.a ≡ length l.fn.a;
  sums : HoldsSums l.at (l.at + l.n) l.fn.a l.b l.a;
}
