-- Samples, samples as pairs, and bounds on samples (own).
use Rattle.std.specs.Prelude.{ℕ, ◌<◌, ◌≤◌, List, length, slice_index_or, pos, unsigned_abs, FitsSigned, All}
use Rattle.std.specs.Int.{w16}
use Rattle.fixed_complex.specs.declared.Cx.{Cx}
use Rattle.fixed_complex.specs.declared.Sample.{Sample}

-- the sample at a place of a list, and silence past its end
abbrev pub sample_at : List Sample → ℕ → Sample
sample_at samples n = slice_index_or samples n (record { i = pos 0; q = pos 0 })

-- a sample as a pair
abbrev pub pair_of : Sample → Cx
pair_of sample = record { re = sample.i; im = sample.q }

-- the sample at a place of a list, as a pair: (0, 0) past its end
abbrev pub pair_at : List Sample → ℕ → Cx
pair_at samples n = pair_of (sample_at samples n)

-- the sample whose parts are those of a pair
abbrev pub as_sample : Cx → Sample
as_sample z = record { i = z.re; q = z.im }

-- a sample's components have 16 bits
pub record IsSample (sample : Sample) : Type 0 where
  pub i : FitsSigned w16 sample.i
  pub q : FitsSigned w16 sample.q

abbrev pub AreSamples : List Sample → Type 0
AreSamples samples = All IsSample samples

-- no component of a sample is larger than a bound in size
pub record IsSampleWithin (bound : ℕ) (sample : Sample) : Type 0 where
  pub i : unsigned_abs sample.i ≤ bound
  pub q : unsigned_abs sample.q ≤ bound

-- no component of any sample is larger than a bound in size
pub record SamplesWithin (bound : ℕ) (samples : List Sample) : Type 0 where
  pub each : (n : ℕ) → n < length samples → IsSampleWithin bound (sample_at samples n)
