use Rattle.std.proofs.Common.{◌-◌, ◌≤◌, ◌+◌, ◌*◌, ◌++◌, length, vec_len}
use Rattle.modem_ports.specs.Limits.{most_input}
use Rattle.modem_ports.specs.Told.{Gives}
use Rattle.fixed_complex.specs.Samples.{AreSamples}
use Rattle.capture_files.specs.Captures.{bytes_of_samples}
use Rattle.capture_files.proofs.read_capture.Given as goal

abbrev pub invariant-loop-samples : goal.invariant-loop-samples
invariant-loop-samples g l = record {
  gave : Gives (g.S.Source.left l.initial.source) (bytes_of_samples l.samples.items ++ l.piecer) (g.S.Source.left l.source);
  are : AreSamples l.samples.items;
  within : 4 * vec_len l.samples + length l.piecer ≤ most_input;
  counted : g.S.Source.faults l.initial.source ≤ g.S.Source.faults l.source;
}

abbrev pub decreases-loop-samples : goal.decreases-loop-samples
decreases-loop-samples g l = most_input - (4 * vec_len l.samples + length l.piecer)
