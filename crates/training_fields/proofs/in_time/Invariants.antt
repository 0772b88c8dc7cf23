use Rattle.std.proofs.Common.{◌≡◌, ℕ, ◌+◌, ◌<◌, ◌%◌, length}
use Rattle.fixed_complex.specs.Samples.{sample_at}
use Rattle.training_fields.proofs.in_time.Given as goal

abbrev pub invariant-loop-time : goal.invariant-loop-time
invariant-loop-time l = record {
  long : length l.samples ≡ 320;
  first : (k : ℕ) → k < l.time → sample_at l.samples k ≡ sample_at l.short (k % 64);
  second : (k : ℕ) → k < l.time → sample_at l.samples (160 + k) ≡ sample_at l.long ((k + 32) % 64);
}
