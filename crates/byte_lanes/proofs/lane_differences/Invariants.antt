use Rattle.std.proofs.Common.{◌≡◌, ◌*◌, ◌≤◌, take}
use Rattle.byte_lanes.specs.Differences.{differences_of}
use Rattle.byte_lanes.proofs.lane_differences.Given as goal

abbrev pub invariant-loop-k : goal.invariant-loop-k
invariant-loop-k l = record {
  so_far : l.differences ≡ differences_of (take (16 * l.k) l.a) (take (16 * l.k) l.b);
  within : l.differences ≤ 16 * l.k;
}
