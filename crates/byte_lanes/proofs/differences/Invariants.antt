use Rattle.std.proofs.Common.{◌≡◌, ◌≤◌, take}
use Rattle.byte_lanes.specs.Differences.{differences_of}
use Rattle.byte_lanes.proofs.differences.Given as goal

abbrev pub invariant-loop-n : goal.invariant-loop-n
invariant-loop-n l = record {
  so_far : l.differences ≡ differences_of (take l.n l.a) (take l.n l.b);
  within : l.differences ≤ l.n;
}
