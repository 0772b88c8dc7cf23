use Rattle.std.proofs.Common.{◌-◌, ◌≤◌, vec_len}
use Rattle.modem_ports.specs.Told.{Gives}
use Rattle.modem_ports.proofs.whole.read_all.Given as goal

abbrev pub invariant-loop-bytes : goal.invariant-loop-bytes
invariant-loop-bytes g l = record {
  gave : Gives (g.S.Source.left l.initial.source) l.bytes.items (g.S.Source.left l.source);
  within : vec_len l.bytes ≤ l.limit;
  counted : g.S.Source.faults l.initial.source ≤ g.S.Source.faults l.source;
}

abbrev pub decreases-loop-bytes : goal.decreases-loop-bytes
decreases-loop-bytes g l = l.limit - vec_len l.bytes
