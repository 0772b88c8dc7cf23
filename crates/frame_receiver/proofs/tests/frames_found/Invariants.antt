use Rattle.std.proofs.Common.{◌≡◌, ◌+◌, ◌≤◌}
use Rattle.frame_receiver.proofs.tests.frames_found.Given as goal

abbrev pub invariant-loop-sample : goal.invariant-loop-sample
invariant-loop-sample l = record {
  count : l.receiver.tail.count ≡ l.initial.receiver.tail.count + l.sample-index;
  few : l.found ≤ l.sample-index;
}
