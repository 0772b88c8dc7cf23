use Rattle.std.proofs.Common.{◌≡◌, List, ◌+◌, ◌-◌, ◌*◌, ◌≤◌, ◌++◌, length, take}
use Rattle.fixed_complex.specs.declared.Sample.{Sample}
use Rattle.capture_hearing.specs.Hearing.{HasLines}
use Rattle.capture_hearing.proofs.hearing.hear_samples.Given as goal

abbrev pub invariant-loop-taken : goal.invariant-loop-taken
invariant-loop-taken l = record {
  within : l.taken ≤ length l.samples;
  heard : (before : List Sample) → HasLines l.initial.receiver l.initial.lines before → HasLines l.receiver l.lines (before ++ take l.taken l.samples);
  count : l.receiver.tail.count ≡ l.initial.receiver.tail.count + l.taken;
  counted : l.steps + l.initial.receiver.spent ≤ l.initial.steps + l.receiver.spent;
  bounded : l.initial.receiver.spent ≤ 32 * l.initial.receiver.tail.count + 512 → l.receiver.spent ≤ 32 * l.receiver.tail.count + 512;
}

abbrev pub decreases-loop-taken : goal.decreases-loop-taken
decreases-loop-taken l = length l.samples - l.taken
