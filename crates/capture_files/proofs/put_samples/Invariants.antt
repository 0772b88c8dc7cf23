use Rattle.std.proofs.Common.{◌≡◌, ◌*◌, take}
use Rattle.capture_files.specs.Captures.{bytes_of_samples}
use Rattle.capture_files.proofs.put_samples.Given as goal

abbrev pub invariant-loop-k : goal.invariant-loop-k
invariant-loop-k l = take (4 * l.k) l.piece ≡ bytes_of_samples (take l.k l.samples)
