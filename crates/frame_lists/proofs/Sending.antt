-- The samples of a list of frames are near it.
use Rattle.std.proofs.Common.{◌≡◌, ℕ, suc, ◌+◌, ◌-◌, ◌<◌, ◌≤◌, List, [], ◌∷◌, ◌++◌, length, drop, All, ap, ◌∙◌, inl, inr, arith, pos, length-append}
use Rattle.std.proofs.lemmas.Bool.{cases_lt}
use Rattle.std.proofs.lemmas.List.{get_or-append-add, get_or-replicate, get_or_append_left, length-replicate}
use Rattle.fixed_complex.specs.declared.Sample.{Sample}
use Rattle.fixed_complex.specs.Pairs.{zero_pair}
use Rattle.fixed_complex.specs.Samples.{sample_at}
use Rattle.rate_table.specs.declared.Rate.{Rate}
use Rattle.plain_waves.specs.Bodies.{sent_body}
use Rattle.plain_waves.specs.Nearness.{AreNearPlain, IsNearPlain}
use Rattle.frame_fields.specs.Frames.{plain_frame, sent_frame}
use Rattle.frame_fields.proofs.FramePlaces.{length-frame}
use Rattle.frame_lists.specs.Items.{Item, frame_from, frames_from, samples_of_items, silence}
use Rattle.frame_lists.specs.Laws.{SentListIsNear}
use Rattle.frame_lists.specs.Near.{StandFrom, bound_at, end_of_sent, samples_of, waveform_at}
use Rattle.frame_lists.proofs.Places.{one_waveform, others_behind, silent_up_to_start}

-- sent frames are within 1 of the plain ones
abbrev pub SentAreNear : Type 0
SentAreNear = (rate : Rate) (seed : ℕ) (psdu : List ℕ) → AreNearPlain 1 (sent_frame rate seed psdu) (plain_frame rate seed psdu)

-- ---- where the frames stand
abbrev sent : Item → List Sample
sent item = sent_frame item.rate item.seed item.psdu

length-sent : (before : ℕ) (item : Item) → length (sent item) ≡ samples_of (frame_from before item)
length-sent before item = length-frame sent_body item.rate item.seed item.psdu

length-items : (before : ℕ) (item : Item) (items : List Item) → before + length (samples_of_items (item ∷ items)) ≡ end_of_sent (frame_from before item) + length (samples_of_items items)
unfolding samples_of_items
length-items before item items =
    omega (
      arith,
      length-append (silence item.gap ++ sent item) (samples_of_items items),
      length-append (silence item.gap) (sent item),
      length-replicate {A = Sample} item.gap (record { i = pos 0; q = pos 0 }),
      length-sent before item,
    )

-- behind a frame
stand_behind : (before samples : ℕ) (items : List Item) → All (λ (item : Item). 16 ≤ item.gap) items → before + length (samples_of_items items) ≤ samples → StandFrom (before + 16) samples (frames_from before items)
unfolding frames_from
stand_behind before samples [] gaps within = tt
stand_behind before samples (item ∷ items) gaps within =
    let frame = frame_from before item in
    let gap : 16 ≤ item.gap = gaps 0 item (omega arith) in
    let rest : end_of_sent frame + length (samples_of_items items) ≤ samples = omega (arith, length-items before item items) in
    (omega arith, omega arith, stand_behind (end_of_sent frame) samples items (λ k d lt. gaps (suc k) d (omega arith)) rest)

-- ---- the samples at their places
silent_sample : (bound : ℕ) → IsNearPlain bound (record { i = pos 0; q = pos 0 }) zero_pair
silent_sample bound = record { i = omega arith; q = omega arith }

module _ (near : SentAreNear) where
  near_items : (before least samples : ℕ) (items : List Item) (k : ℕ) → StandFrom least samples (frames_from before items) → k < length (samples_of_items items)
      → IsNearPlain (bound_at (λ _. 1) 0 (frames_from before items) (before + k)) (sample_at (samples_of_items items) k) (waveform_at (frames_from before items) (before + k))
  unfolding samples_of_items frames_from
  near_items before least samples [] k stand inside = absurd (omega arith)
  near_items before least samples (item ∷ items) k stand inside =
      let frame = frame_from before item in
      let frames = frames_from (end_of_sent frame) items in
      let rest = samples_of_items items in
      let silent : Sample = record { i = pos 0; q = pos 0 } in
      let quiet : length (silence item.gap) ≡ item.gap = length-replicate {A = Sample} item.gap silent in
      let front : length (silence item.gap ++ sent item) ≡ item.gap + samples_of frame = omega (arith, length-append (silence item.gap) (sent item), quiet, length-sent before item) in
      elim (cases_lt k item.gap) [
        | inl gap ↦
            let before_start = silent_up_to_start (λ _. 1) 0 least samples frame frames (before + k) stand (omega arith) in
            let at : sample_at (silence item.gap ++ sent item ++ rest) k ≡ silent =
            get_or_append_left (silence item.gap ++ sent item) rest silent k (omega (arith, front)) ∙ get_or_append_left (silence item.gap) (sent item) silent k (omega (arith, quiet)) ∙ get_or-replicate item.gap k silent silent gap in
            rw (at, before_start.0, before_start.1) (silent_sample 0)
        | inr past ↦ elim (cases_lt k (item.gap + samples_of frame)) [
          | inl within ↦
              let time = k - item.gap in
              let place : before + k ≡ frame.start + time = omega arith in
              let here = one_waveform (λ _. 1) 0 least samples frame frames time stand (omega arith) in
              let within_front : k ≡ length (silence item.gap) + time = omega (arith, quiet) in
              let at : sample_at (silence item.gap ++ sent item ++ rest) k ≡ sample_at (sent item) time =
              get_or_append_left (silence item.gap ++ sent item) rest silent k (omega (arith, front))
              ∙ ap (sample_at (silence item.gap ++ sent item)) within_front ∙ get_or-append-add (silence item.gap) (sent item) time silent in
              rw (at, place, here.0, here.1) ((near item.rate item.seed item.psdu).each time (omega (arith, length-sent before item)))
          | inr behind ↦
              let j = k - (item.gap + samples_of frame) in
              let place : before + k ≡ end_of_sent frame + j = omega arith in
              let others = others_behind (λ _. 1) 0 frame frames (end_of_sent frame + j) (omega arith) in
              let behind_front : k ≡ length (silence item.gap ++ sent item) + j = omega (arith, front) in
              let at : sample_at (silence item.gap ++ sent item ++ rest) k ≡ sample_at rest j =
              ap (sample_at (silence item.gap ++ sent item ++ rest)) behind_front ∙ get_or-append-add (silence item.gap ++ sent item) rest j silent in
              let left : j < length rest = omega (arith, length-append (silence item.gap ++ sent item) rest, front) in
              rw (at, place, others.0, others.1) (near_items (end_of_sent frame) (end_of_sent frame + 16) samples items j stand.2 left)
        ]
      ]

  some_frames : (items : List Item) → 0 < length items → 0 < length (frames_from 0 items)
  unfolding frames_from
  some_frames [] some = some
  some_frames (item ∷ items) some = omega arith

  stand_all : (items : List Item) → All (λ (item : Item). 16 ≤ item.gap) (drop 1 items) → StandFrom 0 (length (samples_of_items items)) (frames_from 0 items)
  unfolding frames_from
  stand_all [] gaps = tt
  stand_all (item ∷ items) gaps =
      let frame = frame_from 0 item in
      let whole = length-items 0 item items in
      (omega arith, omega (arith, whole), stand_behind (end_of_sent frame) (length (samples_of_items (item ∷ items))) items gaps (omega (arith, whole)))

  pub sent_list_is_near : SentListIsNear
  sent_list_is_near items some gaps = record {
    some = some_frames items some;
    stand = stand_all items gaps;
    near = λ place inside.
        let same : 0 + place ≡ place = omega arith in
        rw same at (near_items 0 0 (length (samples_of_items items)) items place (stand_all items gaps) inside);
  }
