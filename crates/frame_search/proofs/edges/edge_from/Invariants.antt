use Rattle.std.proofs.Common.{◌-◌, ◌≤◌, length}
use Rattle.frame_search.specs.Edges.{NoEdge}
use Rattle.frame_search.proofs.edges.edge_from.Given as goal

abbrev pub invariant-loop-place : goal.invariant-loop-place
invariant-loop-place l = record {
  least : l.from ≤ l.place;
  most : l.place ≤ length l.capture;
  none_before : NoEdge l.capture l.from l.place;
}

abbrev pub decreases-loop-place : goal.decreases-loop-place
decreases-loop-place l = length l.capture - l.place
