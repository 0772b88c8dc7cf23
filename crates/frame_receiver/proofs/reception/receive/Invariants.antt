use Rattle.std.proofs.Common.{◌≡◌, ◌+◌, ◌*◌, ◌≤◌, take}
use Rattle.frame_receiver.specs.Receiving.{Stands}
use Rattle.frame_receiver.proofs.reception.receive.Given as goal

abbrev pub invariant-loop-sample : goal.invariant-loop-sample
invariant-loop-sample l = record {
  stands : Stands l.receiver (take l.sample-index l.capture) l.heard;
  count : l.receiver.tail.count ≡ l.sample-index;
  counted : l.steps ≤ l.initial.steps + l.receiver.spent;
  bounded : l.receiver.spent ≤ 32 * l.sample-index + 512;
}
