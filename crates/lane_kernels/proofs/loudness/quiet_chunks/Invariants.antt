use Rattle.std.proofs.Common.{◌≡◌, ℕ, ◌*◌, ◌<◌, false}
use Rattle.lane_kernels.specs.Kernels.{is_loud}
use Rattle.fixed_complex.specs.Samples.{sample_at}
use Rattle.lane_kernels.proofs.loudness.quiet_chunks.Given as goal

abbrev pub invariant-loop-k : goal.invariant-loop-k
invariant-loop-k l = (n : ℕ) → n < 16 * l.k → is_loud (sample_at l.a n) ≡ false
