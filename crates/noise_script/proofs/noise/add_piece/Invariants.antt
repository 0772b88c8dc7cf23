use Rattle.std.proofs.Common.{◌≡◌, length, take}
use Rattle.noise_script.specs.Noise.{behind_samples, noise_samples}
use Rattle.noise_script.proofs.noise.add_piece.Given as goal

abbrev pub invariant-loop-n : goal.invariant-loop-n
invariant-loop-n l = record {
  size : length l.noise ≡ 256;
  made : take l.n l.noise ≡ noise_samples l.bound l.n l.initial.words;
  words : l.words ≡ behind_samples l.n l.initial.words;
}
