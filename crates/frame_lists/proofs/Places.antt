-- The sum of the waveforms of frames, place by place.
use Rattle.std.proofs.Common.{◌≡◌, ℕ, ◌+◌, ◌-◌, ◌<◌, ◌≤◌, true, false, List, [], ◌∷◌, length, refl, ap, ◌∙◌, arith, if◌then◌else◌}
use Rattle.std.proofs.lemmas.Bool.{le-ltb, lt-ltb}
use Rattle.std.proofs.lemmas.List.{get_or_past}
use Rattle.fixed_complex.specs.declared.Cx.{Cx}
use Rattle.fixed_complex.specs.PairLists.{entry}
use Rattle.fixed_complex.specs.Pairs.{plus, zero_pair}
use Rattle.fixed_complex.proofs.Sums.{plus_zero, zero_plus}
use Rattle.plain_waves.specs.Bodies.{plain_body}
use Rattle.frame_fields.proofs.FramePlaces.{length-frame}
use Rattle.frame_lists.specs.Laws.{OneWaveform, OthersBehind, SilentBefore, SilentUpToStart}
use Rattle.frame_lists.specs.Near.{SentFrame, bound_at, end_of_sent, has_place, plain_of, samples_of, shifted, waveform_at}

-- ---- one waveform
pub length-plain_of : (frame : SentFrame) → length (plain_of frame) ≡ samples_of frame
length-plain_of frame = length-frame plain_body frame.rate frame.seed frame.psdu

shifted_before : (start : ℕ) (plain : List Cx) (place : ℕ) → place < start → shifted start plain place ≡ zero_pair
unfolding shifted
shifted_before start plain place below = rw (lt-ltb place start below) refl

shifted_within : (start : ℕ) (plain : List Cx) (time : ℕ) → shifted start plain (start + time) ≡ entry plain time
unfolding shifted
shifted_within start plain time =
    let back : (start + time) - start ≡ time = omega arith in
    rw (le-ltb (start + time) start (omega arith), back) refl

shifted_behind : (start : ℕ) (plain : List Cx) (place : ℕ) → start + length plain ≤ place → shifted start plain place ≡ zero_pair
unfolding shifted
shifted_behind start plain place past =
    rw (le-ltb place start (omega arith)) (get_or_past plain (place - start) zero_pair (omega arith))

-- ---- the places of one frame
not_before : (frame : SentFrame) (place : ℕ) → place < frame.start → has_place frame place ≡ false
not_before frame place below = rw (lt-ltb place frame.start below) refl

there : (frame : SentFrame) (time : ℕ) → time < samples_of frame → has_place frame (frame.start + time) ≡ true
there frame time inside = rw (le-ltb (frame.start + time) frame.start (omega arith), lt-ltb (frame.start + time) (end_of_sent frame) (omega arith)) refl

not_behind : (frame : SentFrame) (place : ℕ) → end_of_sent frame ≤ place → has_place frame place ≡ false
not_behind frame place past = rw (le-ltb place frame.start (omega arith), le-ltb place (end_of_sent frame) past) refl

-- ---- the laws
pub silent_before : SilentBefore
unfolding waveform_at bound_at
silent_before bound quiet least samples [] place stand below = (refl, refl)
silent_before bound quiet least samples (frame ∷ frames) place stand below =
    let here : place < frame.start = let first = stand.0 in omega arith in
    let rest = silent_before bound quiet (end_of_sent frame + 16) samples frames place stand.2 (omega arith) in (
      ap (λ p. plus p (waveform_at frames place)) (shifted_before frame.start (plain_of frame) place here) ∙ zero_plus (waveform_at frames place) ∙ rest.0,
      ap (λ b. if b then bound frame else bound_at bound quiet frames place) (not_before frame place here) ∙ rest.1,
    )

pub silent_up_to_start : SilentUpToStart
silent_up_to_start bound quiet least samples frame frames place stand below =
    silent_before bound quiet frame.start samples (frame ∷ frames) place (omega arith, stand.1, stand.2) below

pub one_waveform : OneWaveform
unfolding waveform_at bound_at
one_waveform bound quiet least samples frame frames time stand inside =
    let place = frame.start + time in
    let rest = silent_before bound quiet (end_of_sent frame + 16) samples frames place stand.2 (omega arith) in (
      ap (plus (shifted frame.start (plain_of frame) place)) rest.0 ∙ plus_zero (shifted frame.start (plain_of frame) place) ∙ shifted_within frame.start (plain_of frame) time,
      ap (λ b. if b then bound frame else bound_at bound quiet frames place) (there frame time inside),
    )

pub others_behind : OthersBehind
unfolding waveform_at bound_at
others_behind bound quiet frame frames place past = (
  ap (λ p. plus p (waveform_at frames place)) (shifted_behind frame.start (plain_of frame) place (omega (arith, length-plain_of frame))) ∙ zero_plus (waveform_at frames place),
  ap (λ b. if b then bound frame else bound_at bound quiet frames place) (not_behind frame place past),
)
