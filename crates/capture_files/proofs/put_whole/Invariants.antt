use Rattle.std.proofs.Common.{◌≡◌, ◌*◌, length, take}
use Rattle.capture_files.specs.Captures.{bytes_of_samples}
use Rattle.fixed_complex.specs.Samples.{AreSamples}
use Rattle.capture_files.proofs.put_whole.Given as goal

abbrev pub invariant-loop-k : goal.invariant-loop-k
invariant-loop-k l = record {
  bytes : bytes_of_samples (take l.k l.out) ≡ take (4 * l.k) l.bytes;
  samples : AreSamples (take l.k l.out);
  long : length l.out ≡ length l.initial.out;
}
