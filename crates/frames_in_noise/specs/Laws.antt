-- What the laws of frames in noise state (own).
use Rattle.std.specs.Prelude.{◌≡◌, ℕ, ◌≤◌, ◌<◌, List, map, length, drop, All, Option, None}
use Rattle.bit_lists.specs.Bits.{AreOctets}
use Rattle.fixed_complex.specs.declared.Sample.{Sample}
use Rattle.fixed_complex.specs.PairLists.{entry}
use Rattle.fixed_complex.specs.Samples.{sample_at}
use Rattle.ofdm_scrambler.specs.Sequence.{IsSeed}
use Rattle.rate_table.specs.Symbols.{IsLength}
use Rattle.rate_table.specs.Table.{row_of}
use Rattle.plain_waves.specs.Nearness.{IsNearPlain}
use Rattle.frame_lists.specs.Items.{Item, frames_from, samples_of_items}
use Rattle.frame_lists.specs.Near.{AreNear, SentFrame, plain_of, samples_of}
use Rattle.frame_reader.specs.Decisions.{plain_decisions}
use Rattle.frame_reader.specs.Frames.{HasField, Opens}
use Rattle.exact_decisions.specs.Laws.{sent_header}
use Rattle.frame_findings.specs.declared.Cut.{Cut}
use Rattle.frame_findings.specs.declared.Heard.{Heard}
use Rattle.frame_findings.specs.Walk.{AreFindings}

-- a frame that may be sent: its seed is 1 to 127, and its PSDU has 1 to 4095 octets
pub record IsFrame (frame : SentFrame) : Type 0 where
  pub seed : IsSeed frame.seed
  pub long : IsLength (length frame.psdu)
  pub octets : AreOctets frame.psdu

-- the noise bound of its rate
abbrev pub noise_bound_of : SentFrame → ℕ
noise_bound_of frame = (row_of frame.rate).noise_bound

-- the frame as it is heard
abbrev pub heard_of : SentFrame → Heard
heard_of frame = record {
  start = frame.start;
  rate = frame.rate;
  length = length frame.psdu;
  seed = frame.seed;
  psdu = frame.psdu;
}

-- the front of samples is within a bound of a frame's waveform
pub record BeginsNear (bound : ℕ) (samples : List Sample) (frame : SentFrame) : Type 0 where
  pub whole : samples_of frame ≤ length samples
  pub near : (time : ℕ) → time < samples_of frame
      → IsNearPlain bound (sample_at samples time) (entry (plain_of frame) time)

-- samples that begin within the noise bound of a frame are opened by it, and have its seed and its PSDU as field
abbrev pub FrameIsRead : Type 0
FrameIsRead =
    (bound : ℕ) (samples : List Sample) (frame : SentFrame) → IsFrame frame
    → bound ≤ noise_bound_of frame
    → BeginsNear bound samples frame
    → Opens samples (sent_header frame.rate frame.psdu)
    × HasField (plain_decisions samples) (sent_header frame.rate frame.psdu) frame.seed frame.psdu

-- the findings of a capture near frames, each within its rate's noise bound in silence within 64, are these frames, in
-- order, and no cut
abbrev pub NoiseIsWithstood : Type 0
NoiseIsWithstood =
    (capture : List Sample) (frames : List SentFrame) → All IsFrame frames
    → AreNear noise_bound_of 64 capture frames → AreFindings capture (map heard_of frames) None

-- and it has no other findings
abbrev pub NothingElseIsFound : Type 0
NothingElseIsFound =
    (capture : List Sample) (frames : List SentFrame) (heard : List Heard) (cut : Option Cut)
    → All IsFrame frames
    → AreNear noise_bound_of 64 capture frames → AreFindings capture heard cut
    → (heard ≡ map heard_of frames) × (cut ≡ None)

-- the findings of the samples of a list in which the gaps but the first are at least 16 are its frames, in order, and no
-- cut
abbrev pub SentListIsHeard : Type 0
SentListIsHeard =
    (items : List Item) → 0 < length items → All (λ (item : Item). 16 ≤ item.gap) (drop 1 items)
    → All IsFrame (frames_from 0 items)
    → AreFindings (samples_of_items items) (map heard_of (frames_from 0 items)) None
