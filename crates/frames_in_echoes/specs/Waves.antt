-- Echoed frames (own).
use Rattle.std.specs.Prelude.{ℕ, ◌*◌, ◌^◌, ◌<◌, ◌≤◌, List, length, pos}
use Rattle.fixed_complex.specs.declared.Cx.{Cx}
use Rattle.fixed_complex.specs.declared.Sample.{Sample}
use Rattle.fixed_complex.specs.PairLists.{entry}
use Rattle.fixed_complex.specs.Pairs.{IsWithin, minus, multiple}
use Rattle.fixed_complex.specs.Samples.{pair_at}
use Rattle.echo_taps.specs.Echoes.{gathered}
use Rattle.frame_lists.specs.Near.{SentFrame, plain_of, samples_of}

-- the echoed waveform of a frame, 2^31 times real samples, by the time since its start: what comes together of its plain
-- waveform, which is (0, 0) before the start and behind the end
abbrev pub echoed_wave : List Cx → SentFrame → ℕ → Cx
echoed_wave taps frame time = gathered taps (entry (plain_of frame)) time

-- as many samples as a frame has stand, and each is within a bound of the frame's echoed waveform, in each component
pub record BeginsNearEchoed (bound : ℕ) (taps : List Cx) (samples : List Sample) (frame : SentFrame)
    : Type 0 where
  pub whole : samples_of frame ≤ length samples
  pub near : (time : ℕ) → time < samples_of frame
      → IsWithin (2 ^ 31 * bound)
      (minus (multiple (pos (2 ^ 31)) (pair_at samples time)) (echoed_wave taps frame time))
