-- What the law of places of frames states (own).
use Rattle.std.specs.Prelude.{◌≡◌, ℕ, ◌+◌, ◌<◌, ◌≤◌, List, ◌∷◌, length, drop, All}
use Rattle.fixed_complex.specs.declared.Sample.{Sample}
use Rattle.fixed_complex.specs.PairLists.{entry}
use Rattle.fixed_complex.specs.Pairs.{zero_pair}
use Rattle.frame_lists.specs.Items.{Item, frames_from, samples_of_items}
use Rattle.frame_lists.specs.Near.{AreNear, SentFrame, StandFrom, bound_at, end_of_sent, plain_of, samples_of, waveform_at}

-- before the first place of frames there is silence
abbrev pub SilentBefore : Type 0
SilentBefore =
    (bound : SentFrame → ℕ) (quiet least samples : ℕ) (frames : List SentFrame) (place : ℕ)
    → StandFrom least samples frames → place < least
    → waveform_at frames place ≡ zero_pair × bound_at bound quiet frames place ≡ quiet

-- so there is before the start of the first frame
abbrev pub SilentUpToStart : Type 0
SilentUpToStart =
    (bound : SentFrame → ℕ) (quiet least samples : ℕ) (frame : SentFrame)
    (frames : List SentFrame) (place : ℕ)
    → StandFrom least samples (frame ∷ frames) → place < frame.start
    → waveform_at (frame ∷ frames) place ≡ zero_pair
    × bound_at bound quiet (frame ∷ frames) place ≡ quiet

-- in the first frame there is its waveform alone
abbrev pub OneWaveform : Type 0
OneWaveform =
    (bound : SentFrame → ℕ) (quiet least samples : ℕ) (frame : SentFrame)
    (frames : List SentFrame) (time : ℕ)
    → StandFrom least samples (frame ∷ frames) → time < samples_of frame
    → waveform_at (frame ∷ frames) (frame.start + time) ≡ entry (plain_of frame) time
    × bound_at bound quiet (frame ∷ frames) (frame.start + time) ≡ bound frame

-- behind it there is what the other frames give
abbrev pub OthersBehind : Type 0
OthersBehind =
    (bound : SentFrame → ℕ) (quiet : ℕ) (frame : SentFrame) (frames : List SentFrame) (place : ℕ)
    → end_of_sent frame ≤ place
    → waveform_at (frame ∷ frames) place ≡ waveform_at frames place
    × bound_at bound quiet (frame ∷ frames) place ≡ bound_at bound quiet frames place

-- what is near frames is near them within larger bounds, too
abbrev pub BoundsMayGrow : Type 0
BoundsMayGrow =
    (bound larger : SentFrame → ℕ) (quiet louder : ℕ) (capture : List Sample)
    (frames : List SentFrame)
    → ((frame : SentFrame) → bound frame ≤ larger frame) → quiet ≤ louder
    → AreNear bound quiet capture frames → AreNear larger louder capture frames

-- the samples of a list in which the gaps but the first are at least 16 are within 1 of its frames, and silent elsewhere
abbrev pub SentListIsNear : Type 0
SentListIsNear =
    (items : List Item) → 0 < length items → All (λ (item : Item). 16 ≤ item.gap) (drop 1 items)
    → AreNear (λ _. 1) 0 (samples_of_items items) (frames_from 0 items)
