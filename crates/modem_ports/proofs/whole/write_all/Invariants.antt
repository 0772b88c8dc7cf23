use Rattle.std.proofs.Common.{length, take, ◌-◌, ◌≤◌}
use Rattle.modem_ports.specs.Told.{Takes}
use Rattle.modem_ports.proofs.whole.write_all.Given as goal

abbrev pub invariant-loop-at : goal.invariant-loop-at
invariant-loop-at g l = record {
  within : l.at ≤ length l.bytes;
  took : Takes (g.K.Sink.taken l.initial.sink) (take l.at l.bytes) (g.K.Sink.taken l.sink);
  counted : g.K.Sink.faults l.initial.sink ≤ g.K.Sink.faults l.sink;
}

abbrev pub decreases-loop-at : goal.decreases-loop-at
decreases-loop-at g l = length l.bytes - l.at
