-- The noise of uniform items, from the words of a generator (own). The step from word to word is
-- the one that rand_pcg states.
use Rattle.std.specs.Prelude.{ℕ, zero, suc, ◌+◌, ◌*◌, ◌%◌, List, [], ◌∷◌, ℤ, pos, ◌-ℤ◌}
use Rattle.fixed_complex.specs.declared.Sample.{Sample}
use Rattle.rand_pcg.specs.Lcg.{Lcg, increment_of, started}
use Rattle.rand_pcg.specs.Pcg.{multiplier_64, pcg32}

-- the generator of a seed, on stream 0
unfoldable pub generator_of : ℕ → Lcg
generator_of seed = started 64 multiplier_64 seed (increment_of 64 0)

-- what a word adds to a component: (w mod (2B + 1)) - B
abbrev pub noise_of : ℕ → ℕ → ℤ
noise_of bound word = pos (word % (2 * bound + 1)) -ℤ pos bound

-- the generator behind the two words of a sample
unfoldable pub behind_sample : Lcg → Lcg
behind_sample words = (pcg32 (pcg32 words).1).1

-- what is added to a sample: by one word to I, and by the next to Q
unfoldable pub sample_noise : ℕ → Lcg → Sample
sample_noise bound words =
    record { i = noise_of bound (pcg32 words).0; q = noise_of bound (pcg32 (pcg32 words).1).0 }

-- the generator behind the words of so many samples
unfoldable pub behind_samples : ℕ → Lcg → Lcg
behind_samples zero words = words
behind_samples (suc count) words = behind_samples count (behind_sample words)

-- what is added to so many samples
unfoldable pub noise_samples : ℕ → ℕ → Lcg → List Sample
noise_samples bound zero words = []
noise_samples bound (suc count) words =
    sample_noise bound words ∷ noise_samples bound count (behind_sample words)
