-- The walk over a capture near a list of frames finds these frames.
use Rattle.std.proofs.Common.{◌≡◌, ℕ, suc, ◌+◌, ◌<◌, ◌≤◌, true, false, List, [], ◌∷◌, length, map, drop, All, ap, refl, sym, ◌∙◌, arith, pos}
use Rattle.std.specs.Prelude.{None}
use Rattle.std.proofs.lemmas.List.{get_or-drop, length-drop}
use Rattle.fixed_complex.specs.declared.Sample.{Sample}
use Rattle.fixed_complex.specs.Pairs.{zero_pair}
use Rattle.fixed_complex.specs.Samples.{sample_at}
use Rattle.lane_kernels.specs.Kernels.{is_loud}
use Rattle.plain_waves.specs.Nearness.{IsNearPlain}
use Rattle.frame_search.specs.Match.{part}
use Rattle.starts_in_noise.proofs.Loud.{preamble_is_loud, silence_is_quiet}
use Rattle.frame_lists.specs.Near.{SentFrame, StandFrom, bound_at, end_of_sent, waveform_at}
use Rattle.frame_lists.proofs.Places.{one_waveform, others_behind, silent_up_to_start}
use Rattle.frame_lists.proofs.Growing.{bounds_may_grow}
use Rattle.frame_lists.specs.Items.{frames_from, samples_of_items}
use Rattle.frame_lists.specs.Laws.{SentListIsNear}
use Rattle.rate_table.proofs.ByRate.{noise_bound_from}
use Rattle.frame_findings.proofs.Walking.{one_findings}
use Rattle.exact_decisions.specs.Laws.{sent_header}
use Rattle.frame_findings.specs.Walk.{HearsNext, IsChosen, NoneChosen, Walks}
use Rattle.frames_in_noise.specs.Laws.{BeginsNear, IsFrame, NoiseIsWithstood, NothingElseIsFound, SentListIsHeard, heard_of, noise_bound_of}
use Rattle.frames_in_noise.proofs.Codes.{bound_of_symbol}
use Rattle.frames_in_noise.proofs.Frames.{frame_is_read}
use Rattle.frames_in_noise.proofs.Parts.{near_preamble, part_at}

-- a sample is near the sum of the waveforms of frames, at a place
abbrev IsNearAt : List Sample → List SentFrame → ℕ → Type 0
IsNearAt capture frames place = IsNearPlain (bound_at noise_bound_of 64 frames place) (sample_at capture place) (waveform_at frames place)

-- from a place on
abbrev IsNearFrom : List Sample → List SentFrame → ℕ → Type 0
IsNearFrom capture frames from = (place : ℕ) → from ≤ place → place < length capture → IsNearAt capture frames place

loud_or_quiet : (sample : Sample) → is_loud sample ≡ true → is_loud sample ≡ false → ⊥
loud_or_quiet sample loud quiet = cc

-- none is chosen among quiet samples
none_among_quiet : (capture : List Sample) (from upto : ℕ) → ((place : ℕ) → from ≤ place → place < upto → is_loud (sample_at capture place) ≡ false) → NoneChosen capture from upto
none_among_quiet capture from upto quiet place header least below chosen = loud_or_quiet (sample_at capture place) chosen.edge.loud (quiet place least below)

-- where the frames give silence, the sample is quiet
quiet_at : (capture : List Sample) (frames : List SentFrame) (place : ℕ) → IsNearAt capture frames place → waveform_at frames place ≡ zero_pair → bound_at noise_bound_of 64 frames place ≡ 64 → is_loud (sample_at capture place) ≡ false
quiet_at capture frames place near silent bound = silence_is_quiet 64 (sample_at capture place) (omega arith) (rw (bound, silent) at near)

module _ (capture : List Sample) (frame : SentFrame) (frames : List SentFrame) (from least : ℕ) (is : IsFrame frame) (below : from ≤ least)
    (margin : (place : ℕ) → least ≤ place + 16 → from ≤ place) (stand : StandFrom least (length capture) (frame ∷ frames)) (near : IsNearFrom capture (frame ∷ frames) from) where
  -- before the start it is quiet
  quiet_before : (place : ℕ) → from ≤ place → place < frame.start → is_loud (sample_at capture place) ≡ false
  quiet_before place past before =
      let silent = silent_up_to_start noise_bound_of 64 least (length capture) frame frames place stand before in
      let within : place < length capture = let end = stand.1 in omega arith in
      quiet_at capture (frame ∷ frames) place (near place past within) silent.0 silent.1

  -- from the start on stands the frame
  begins : BeginsNear (noise_bound_of frame) (drop frame.start capture) frame
  begins = record {
    whole = let end = stand.1 in omega (arith, length-drop frame.start capture);
    near = λ time lt.
        let start = stand.0 in
        let end = stand.1 in
        let here = one_waveform noise_bound_of 64 least (length capture) frame frames time stand lt in
        let at = get_or-drop frame.start capture time (record { i = pos 0; q = pos 0 }) in
        rw at (rw (here.1, here.0) at (near (frame.start + time) (omega arith) (omega arith)));
  }

  first_loud : is_loud (sample_at capture frame.start) ≡ true
  first_loud =
      let samples = drop frame.start capture in
      let most = bound_of_symbol frame.rate (noise_bound_of frame) 0 (omega arith) in
      let loud = preamble_is_loud (noise_bound_of frame) (part samples 0 320) most (near_preamble frame (noise_bound_of frame) samples begins) in
      let place : frame.start + 0 ≡ frame.start = omega arith in
      let at : sample_at (part samples 0 320) 0 ≡ sample_at capture frame.start =
      part_at samples 0 320 0 (omega arith) ∙ get_or-drop frame.start capture 0 (record { i = pos 0; q = pos 0 }) ∙ ap (sample_at capture) place in
      ap is_loud (sym at) ∙ loud

  chosen : IsChosen capture frame.start (sent_header frame.rate frame.psdu)
  chosen = record {
    edge = record {
      loud = first_loud;
      quiet = λ place before last. let start = stand.0 in quiet_before place (margin place (omega arith)) before;
    };
    within = let end = stand.1 in omega arith;
    opens = (frame_is_read (noise_bound_of frame) (drop frame.start capture) frame is (omega arith) begins).0;
  }

  pub hears : HearsNext capture from (heard_of frame)
  hears = record {
    header = sent_header frame.rate frame.psdu;
    next = record {
      least = let start = stand.0 in omega arith;
      chosen = chosen;
      none_before = none_among_quiet capture from frame.start quiet_before;
    };
    frame = record {
      whole = stand.1;
      rate = refl;
      octets = refl;
      field = (frame_is_read (noise_bound_of frame) (drop frame.start capture) frame is (omega arith) begins).1;
    };
  }

  -- and behind it the others do
  pub near_behind : IsNearFrom capture frames (end_of_sent frame)
  near_behind place past inside =
      let others = others_behind noise_bound_of 64 frame frames place past in
      let start = stand.0 in
      rw (others.1, others.0) at (near place (omega arith) inside)

-- all frames, and then none
pub walk : (capture : List Sample) (frames : List SentFrame) (from least : ℕ) → All IsFrame frames → from ≤ least → ((place : ℕ) → least ≤ place + 16 → from ≤ place)
    → StandFrom least (length capture) frames → IsNearFrom capture frames from
    → (upto : ℕ) × (Walks capture from (map heard_of frames) upto × NoneChosen capture upto (length capture))
unfolding waveform_at bound_at
walk capture [] from least are below margin stand near = (
  from,
  (
    refl,
    none_among_quiet capture from (length capture) (λ place past inside. quiet_at capture [] place (near place past inside) refl refl),
  ),
)
walk capture (frame ∷ frames) from least are below margin stand near =
    let is = are 0 frame (omega arith) in
    let rest = walk capture frames (end_of_sent frame) (end_of_sent frame + 16) (λ k d lt. are (suc k) d (omega arith)) (omega arith) (λ place last. omega arith) stand.2
    (near_behind capture frame frames from least is below margin stand near) in
    (rest.0, ((hears capture frame frames from least is below margin stand near, rest.1.0), rest.1.1))

pub noise_is_withstood : NoiseIsWithstood
noise_is_withstood capture frames are near =
    let found = walk capture frames 0 0 are (omega arith) (λ place last. omega arith) near.stand (λ place past inside. near.near place inside) in
    record { upto = found.0; walks = found.1.0; ends = found.1.1 }

pub nothing_else_is_found : NothingElseIsFound
nothing_else_is_found capture frames heard cut are near findings = one_findings capture heard (map heard_of frames) cut None findings (noise_is_withstood capture frames are near)

-- ---- frames as they are sent
pub sent_list_is_heard : SentListIsNear → SentListIsHeard
sent_list_is_heard sent items some gaps are =
    noise_is_withstood (samples_of_items items) (frames_from 0 items) are
    (bounds_may_grow (λ _. 1) noise_bound_of 0 64 (samples_of_items items) (frames_from 0 items) (λ frame. omega (arith, noise_bound_from frame.rate)) (omega arith) (sent items some gaps))
