use Rattle.std.proofs.Common.{◌+◌, ◌-◌, ◌≤◌}
use Rattle.capture_hearing.specs.Sources.{HeardFrom}
use Rattle.modem_ports.specs.Limits.{most_input}
use Rattle.capture_hearing.proofs.source.hear_source.Given as goal

abbrev pub invariant-loop-count : goal.invariant-loop-count
invariant-loop-count g l = record {
  heard : HeardFrom (g.S.Source.left l.initial.source) (g.S.Source.left l.source) l.hearing;
  within : l.hearing.count ≤ most_input;
  counted : g.S.Source.faults l.initial.source ≤ g.S.Source.faults l.source;
  paced : l.steps + l.initial.hearing.receiver.spent ≤ l.initial.steps + l.hearing.receiver.spent;
}

abbrev pub decreases-loop-count : goal.decreases-loop-count
decreases-loop-count g l = most_input - l.hearing.count
