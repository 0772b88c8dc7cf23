-- What the laws of starts in noise state (own).
use Rattle.std.specs.Prelude.{◌≡◌, ℕ, ◌≤◌, List, true, false}
use Rattle.fixed_complex.specs.declared.Sample.{Sample}
use Rattle.fixed_complex.specs.Pairs.{zero_pair}
use Rattle.fixed_complex.specs.Samples.{sample_at}
use Rattle.lane_kernels.specs.Kernels.{is_loud}
use Rattle.plain_waves.specs.Bodies.{plain_body}
use Rattle.plain_waves.specs.Nearness.{AreNearPlain, IsNearPlain}
use Rattle.training_fields.specs.Training.{preamble_of}
use Rattle.frame_search.specs.Match.{matches}

-- 320 samples within 64 of the plain training fields match them
abbrev pub PreambleMatches : Type 0
PreambleMatches =
    (bound : ℕ) (samples : List Sample) → bound ≤ 64
    → AreNearPlain bound samples (preamble_of plain_body)
    → matches samples ≡ true

-- and the first of them is loud
abbrev pub PreambleIsLoud : Type 0
PreambleIsLoud =
    (bound : ℕ) (samples : List Sample) → bound ≤ 64
    → AreNearPlain bound samples (preamble_of plain_body)
    → is_loud (sample_at samples 0) ≡ true

-- a sample within 64 of silence is quiet
abbrev pub SilenceIsQuiet : Type 0
SilenceIsQuiet =
    (bound : ℕ) (sample : Sample) → bound ≤ 64 → IsNearPlain bound sample zero_pair
    → is_loud sample ≡ false
