use Rattle.std.proofs.Common.{◌≡◌, ℕ, ◌+◌, ◌*◌, ◌<◌, length}
use Rattle.fixed_complex.specs.Samples.{sample_at}
use Rattle.butterfly64.specs.Rows.{row_lane}
use Rattle.plain_waves.specs.Bodies.{sample_of}
use Rattle.plain_waves.proofs.put_samples.Given as goal

abbrev pub invariant-loop-l : goal.invariant-loop-l
invariant-loop-l l = record {
  long : length l.samples ≡ 64;
  put : (k : ℕ) → k < l.l → sample_at l.samples (8 * l.r + k) ≡ sample_of 9 (row_lane l.sums k);
  before : (n : ℕ) → n < 8 * l.r → sample_at l.samples n ≡ sample_at l.fn.samples n;
}
