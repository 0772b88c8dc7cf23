use Rattle.std.proofs.Common.{◌≡◌, ◌*◌, length, take}
use Rattle.capture_files.specs.Captures.{bytes_of_samples}
use Rattle.fixed_complex.specs.Samples.{AreSamples}
use Rattle.capture_files.proofs.samples_of.Given as goal

abbrev pub invariant-loop-k : goal.invariant-loop-k
invariant-loop-k l = record {
  bytes : bytes_of_samples l.samples.items ≡ take (4 * l.k) l.bytes;
  samples : AreSamples l.samples.items;
  count : length l.samples.items ≡ l.k;
}
