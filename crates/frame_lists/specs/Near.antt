-- Lists of frames in silence, the sum of their waveforms, and captures that are near it (own).
use Rattle.std.specs.Prelude.{ℕ, ◌+◌, ◌-◌, ◌*◌, ◌<◌, ◌≤◌, Bool, not, ◌&&◌, nat_lt, List, [], ◌∷◌, length, ⊤, if◌then◌else◌}
use Rattle.fixed_complex.specs.declared.Cx.{Cx}
use Rattle.fixed_complex.specs.declared.Sample.{Sample}
use Rattle.fixed_complex.specs.PairLists.{entry}
use Rattle.fixed_complex.specs.Pairs.{plus, zero_pair}
use Rattle.fixed_complex.specs.Samples.{sample_at}
use Rattle.rate_table.specs.declared.Rate.{Rate}
use Rattle.rate_table.specs.Symbols.{symbol_count}
use Rattle.rate_table.specs.Table.{row_of}
use Rattle.plain_waves.specs.Nearness.{IsNearPlain}
use Rattle.frame_fields.specs.Frames.{plain_frame, sent_frame}

-- a frame that is sent, from a place on
pub record SentFrame : Type 0 where
  pub start : ℕ
  pub rate : Rate
  pub seed : ℕ
  pub psdu : List ℕ

-- its waveform
abbrev pub plain_of : SentFrame → List Cx
plain_of frame = plain_frame frame.rate frame.seed frame.psdu

-- its samples, as they are sent
abbrev pub sent_of : SentFrame → List Sample
sent_of frame = sent_frame frame.rate frame.seed frame.psdu

-- how many samples it has: 400 + 80 * N_SYM
abbrev pub samples_of : SentFrame → ℕ
samples_of frame = 400 + 80 * symbol_count (row_of frame.rate).field_bits (length frame.psdu)

-- the place behind it
abbrev pub end_of_sent : SentFrame → ℕ
end_of_sent frame = frame.start + samples_of frame

-- frames stand in so many samples, the first of them from a place on: each start is at least 16 past the end of the
-- frame before, and each frame ends within the samples
abbrev pub StandFrom : ℕ → ℕ → List SentFrame → Type 0
StandFrom least samples [] = ⊤
StandFrom least samples (frame ∷ frames) =
    least ≤ frame.start
    × end_of_sent frame ≤ samples
    × StandFrom (end_of_sent frame + 16) samples frames

-- a waveform shifted by a start: (0, 0) before it and behind its end
unfoldable pub shifted : ℕ → List Cx → ℕ → Cx
shifted start plain place = if nat_lt place start then zero_pair else entry plain (place - start)

-- the sum of the waveforms of frames, each shifted by its start
unfoldable pub waveform_at : List SentFrame → ℕ → Cx
waveform_at [] place = zero_pair
waveform_at (frame ∷ frames) place =
    plus (shifted frame.start (plain_of frame) place) (waveform_at frames place)

-- whether a place is one of a frame's
abbrev pub has_place : SentFrame → ℕ → Bool
has_place frame place = not (nat_lt place frame.start) && nat_lt place (end_of_sent frame)

-- the bound at a place: that of the frame whose place it is, and elsewhere that of silence
unfoldable pub bound_at : (SentFrame → ℕ) → ℕ → List SentFrame → ℕ → ℕ
bound_at bound quiet [] place = quiet
bound_at bound quiet (frame ∷ frames) place =
    if has_place frame place then bound frame else bound_at bound quiet frames place

-- frames stand in a capture, and at each of its places each component is within the bound there of the sum of their
-- waveforms
pub record AreNear (bound : SentFrame → ℕ) (quiet : ℕ) (capture : List Sample)
    (frames : List SentFrame) : Type 0 where
  pub some : 0 < length frames
  pub stand : StandFrom 0 (length capture) frames
  pub near : (place : ℕ) → place < length capture
      → IsNearPlain (bound_at bound quiet frames place) (sample_at capture place)
      (waveform_at frames place)
