use Rattle.std.proofs.Common.{◌≡◌, ◌<◌, ◌++◌, length, take}
use Rattle.capture_files.proofs.piecer.Piecer.feed_some.Given as goal

abbrev pub invariant-loop-k : goal.invariant-loop-k
invariant-loop-k l = record {
  held : l.self ≡ l.initial.self ++ take l.k l.bytes;
  few : length l.self < 4;
}
