use Rattle.std.proofs.Common.{◌≤◌}
use Rattle.signal_field.proofs.tests.headers_and_faults.Given as goal

abbrev pub invariant-loop-text : goal.invariant-loop-text
invariant-loop-text g l = 24 ≤ l.trellis.room
