-- How near samples are to the plain waveform (own).
use Rattle.std.specs.Prelude.{◌≡◌, ℕ, ◌*◌, ◌<◌, ◌≤◌, ◌^◌, List, length, unsigned_abs, pos, ◌-ℤ◌, ◌*ℤ◌}
use Rattle.fixed_complex.specs.declared.Cx.{Cx}
use Rattle.fixed_complex.specs.declared.Sample.{Sample}
use Rattle.fixed_complex.specs.PairLists.{entry}
use Rattle.fixed_complex.specs.Samples.{sample_at}

-- a sample is within a bound of a real sample, which is a plain pair over 2^21, in each component
pub record IsNearPlain (bound : ℕ) (sample : Sample) (plain : Cx) : Type 0 where
  pub i : unsigned_abs (pos (2 ^ 21) *ℤ sample.i -ℤ plain.re) ≤ 2 ^ 21 * bound
  pub q : unsigned_abs (pos (2 ^ 21) *ℤ sample.q -ℤ plain.im) ≤ 2 ^ 21 * bound

-- as many samples as plain pairs, and each within the bound
pub record AreNearPlain (bound : ℕ) (samples : List Sample) (plain : List Cx) : Type 0 where
  pub long : length samples ≡ length plain
  pub each : (n : ℕ) → n < length samples → IsNearPlain bound (sample_at samples n) (entry plain n)
