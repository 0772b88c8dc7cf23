use Rattle.std.proofs.Common.{◌≡◌, ◌-◌, ◌≤◌, ◌++◌, length, take, drop}
use Rattle.lane_kernels.specs.Kernels.{held_sums}
use Rattle.noise_script.specs.Noise.{noise_samples}
use Rattle.noise_script.proofs.noise.add_noise.Given as goal

abbrev pub invariant-loop-from : goal.invariant-loop-from
invariant-loop-from l = record {
  within : l.from ≤ length l.initial.samples;
  sums : take l.from l.samples ++ held_sums (drop l.from l.samples) (noise_samples l.bound (length (drop l.from l.samples)) l.words) ≡ held_sums l.initial.samples (noise_samples l.bound (length l.initial.samples) l.initial.words);
}

abbrev pub decreases-loop-from : goal.decreases-loop-from
decreases-loop-from l = length l.samples - l.from
