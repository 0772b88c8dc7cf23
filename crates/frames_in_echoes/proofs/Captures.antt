-- The echo of a capture near frames in silence, frame by frame.
use Rattle.std.proofs.Common.{◌≡◌, ℕ, ◌+◌, ◌*◌, ◌<◌, ◌≤◌, Bool, true, false, cond, List, [], ◌∷◌, length, get_or, All, refl, ap, ◌∙◌, arith}
use Rattle.std.proofs.lemmas.List.Elements.{All-cons, All-nil}
use Rattle.fixed_complex.specs.declared.Sample.{Sample}
use Rattle.fixed_complex.specs.Samples.{sample_at}
use Rattle.plain_waves.specs.Nearness.{IsNearPlain}
use Rattle.echo_taps.specs.Echoes.{echo_of}
use Rattle.symbols_in_echoes.specs.Laws.{echo_bound_of}
use Rattle.symbols_in_echoes.proofs.Bounds.{echo_bound_least, echo_bound_most}
use Rattle.frame_fields.proofs.NearFrames.{near_frame}
use Rattle.frame_lists.specs.Items.{frames_from, samples_of_items}
use Rattle.frame_lists.specs.Near.{AreNear, SentFrame, StandFrom, bound_at, end_of_sent, has_place, waveform_at}
use Rattle.frame_lists.proofs.Growing.{bounds_may_grow}
use Rattle.frame_lists.proofs.Places.{one_waveform, others_behind, silent_up_to_start}
use Rattle.frame_lists.proofs.Sending.{sent_list_is_near}
use Rattle.frames_in_echoes.specs.Laws.{EchoOfCaptureIsNear, EchoOfCaptureIsThere, EchoOfListIsThere}
use Rattle.frames_in_echoes.proofs.Frames.{echoed_frame_is_there}
use Rattle.frames_in_echoes.proofs.Sent.{IsNearAlone, echo_alone_is_near}

-- ---- one bound for all places
either : (b : Bool) (n : ℕ) → cond b n n ≡ n
either true n = refl
either false n = refl

one_bound : (bound : ℕ) (frames : List SentFrame) (place : ℕ) → bound_at (λ _. bound) bound frames place ≡ bound
unfolding bound_at
one_bound bound [] place = refl
one_bound bound (frame ∷ frames) place = ap (cond (has_place frame place) bound) (one_bound bound frames place) ∙ either (has_place frame place) bound

-- ---- each frame is alone for seven places
-- near from seven places before the least start on
abbrev IsNearFrom : ℕ → List Sample → List SentFrame → ℕ → Type 0
IsNearFrom bound capture frames least = (place : ℕ) → least ≤ place + 7 → place < length capture → IsNearPlain bound (sample_at capture place) (waveform_at frames place)

abbrev IsAlone : ℕ → List Sample → SentFrame → Type 0
IsAlone bound capture frame = IsNearAlone bound frame.start capture frame

all_alone : (bound : ℕ) (capture : List Sample) (frames : List SentFrame) (least : ℕ) → StandFrom least (length capture) frames → IsNearFrom bound capture frames least → All (IsAlone bound capture) frames
all_alone bound capture [] least stand near = All-nil (IsAlone bound capture)
all_alone bound capture (frame ∷ frames) least stand near =
    let from = stand.0 in
    let inside = stand.1 in
    All-cons (IsAlone bound capture) frame frames
    (record {
      whole = inside;
      within = λ time lt.
          let there = (one_waveform (λ _. bound) bound least (length capture) frame frames time stand lt).0 in
          rw (← there) (near (frame.start + time) (omega (arith, from)) (omega (arith, inside)));
      before = λ place lt few.
          let silent = (silent_up_to_start (λ _. bound) bound least (length capture) frame frames place stand lt).0 in
          rw (← silent) (near place (omega (arith, from)) (omega (arith, inside)));
    })
    (all_alone bound capture frames (end_of_sent frame + 16) stand.2
    (λ place past below.
    let others = (others_behind (λ _. bound) bound frame frames place (omega arith)).0 in
    rw (← others) (near place (omega (arith, from)) below)))

alone_in : (bound : ℕ) (capture : List Sample) (frames : List SentFrame) → AreNear (λ _. bound) bound capture frames → All (IsAlone bound capture) frames
alone_in bound capture frames near = all_alone bound capture frames 0 near.stand (λ place past below. rw (one_bound bound frames place) at (near.near place below))

-- ---- the laws
pub echo_of_capture_is_near : EchoOfCaptureIsNear
echo_of_capture_is_near taps bound louder capture frames echo few enough near =
    λ k d lt. let frame : SentFrame = get_or frames k d in echo_alone_is_near taps bound louder frame.start capture frame echo few enough (alone_in bound capture frames near k d lt)

pub echo_of_capture_is_there : EchoOfCaptureIsThere
echo_of_capture_is_there taps bound capture frames echo are allow near =
    λ k d lt.
    let frame : SentFrame = get_or frames k d in
    let louder = echo_bound_of frame.rate in
    let enough : 1280 * bound + 512 ≤ 1024 * louder = allow k d lt in
    let few : bound ≤ 1000 = omega (arith, enough, echo_bound_most frame.rate) in
    echoed_frame_is_there louder taps (echo_of taps capture) frame echo (are k d lt) (omega arith) (echo_alone_is_near taps bound louder frame.start capture frame echo few enough (alone_in bound capture frames near k d lt))

pub echo_of_list_is_there : EchoOfListIsThere
echo_of_list_is_there taps items echo some gaps are =
    let capture = samples_of_items items in
    let frames = frames_from 0 items in
    let near = bounds_may_grow (λ _. 1) (λ _. 1) 0 1 capture frames (λ frame. omega arith) (omega arith) (sent_list_is_near near_frame items some gaps) in
    echo_of_capture_is_there taps 1 capture frames echo are (λ k d lt. let frame : SentFrame = get_or frames k d in omega (arith, echo_bound_least frame.rate)) near
