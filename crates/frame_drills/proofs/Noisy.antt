-- The first capture of a drilled frame is near it.
use Rattle.std.proofs.Common.{◌≡◌, ℕ, zero, suc, ◌+◌, ◌-◌, ◌<◌, ◌≤◌, List, [], ◌∷◌, ◌++◌, length, All, ap, ◌∙◌, subst, sym, inl, inr, arith, pos, ◌+ℤ◌, length-append}
use Rattle.std.proofs.lemmas.Bool.{cases_lt}
use Rattle.std.proofs.lemmas.Int.{ints}
use Rattle.std.proofs.lemmas.List.{get_or-append-add, get_or-replicate, get_or_append_left, length-replicate}
use Rattle.fixed_complex.specs.declared.Cx.{Cx}
use Rattle.fixed_complex.specs.declared.Sample.{Sample}
use Rattle.fixed_complex.specs.PairLists.{entry}
use Rattle.fixed_complex.specs.Pairs.{zero_pair}
use Rattle.fixed_complex.specs.Samples.{IsSampleWithin, sample_at}
use Rattle.lane_kernels.specs.Kernels.{held_sum, held_sums}
use Rattle.lane_kernels.proofs.Holding.{held-small}
use Rattle.lane_kernels.proofs.HeldSums.{held_sums-at, length-held_sums}
use Rattle.noise_script.specs.Effects.{after_items, silence}
use Rattle.noise_script.specs.Noise.{generator_of, noise_samples}
use Rattle.noise_script.specs.declared.Item.{Item}
use Rattle.noise_script.specs.declared.Item.TheVariants.{Lead, Trail, Uniform}
use Rattle.noise_script.proofs.Effects.{after_frame}
use Rattle.noise_script.proofs.Noises.{length-noise, noise_within}
use Rattle.plain_waves.specs.Bodies.{sent_body}
use Rattle.rate_table.proofs.ByRate.{noise_bound_from}
use Rattle.plain_waves.specs.Nearness.{IsNearPlain}
use Rattle.frame_fields.specs.Frames.{sent_frame}
use Rattle.frame_fields.proofs.FramePlaces.{length-frame}
use Rattle.frame_fields.proofs.NearFrames.{near_frame, small_frame}
use Rattle.frame_lists.specs.Near.{AreNear, SentFrame, bound_at, end_of_sent, plain_of, samples_of, waveform_at}
use Rattle.frame_lists.proofs.Growing.{near_wider}
use Rattle.frame_lists.proofs.Places.{one_waveform, others_behind, silent_up_to_start}
use Rattle.frames_in_noise.specs.Laws.{IsFrame, noise_bound_of}
use Rattle.frames_in_noise.proofs.Walking.{noise_is_withstood}
use Rattle.frame_drills.specs.Captures.{ComesBack, scripted}
use Rattle.frame_drills.specs.Draws.{drawn}
use Rattle.frame_drills.specs.Laws.{FirstComesBack, FirstIsInNoise}
use Rattle.frame_drills.proofs.Drawing.{drawn_is_frame}

abbrev silent : Sample
silent = record { i = pos 0; q = pos 0 }

-- ---- a sample with noise
sum_near : (bound more size : ℕ) (sample noise : Sample) (plain : Cx) → IsNearPlain bound sample plain → IsSampleWithin size sample → IsSampleWithin more noise → size + more ≤ 32767 → IsNearPlain (bound + more) (held_sum sample noise) plain
sum_near bound more size sample noise plain near within loud fits =
    rw (held-small (sample.i +ℤ noise.i) (omega (arith, ints, within.i, loud.i)), held-small (sample.q +ℤ noise.q) (omega (arith, ints, within.q, loud.q)))
    (record { i = omega (arith, ints, near.i, loud.i); q = omega (arith, ints, near.q, loud.q) })

-- a list of samples with noise, place by place
sums_near : (bound more size : ℕ) (samples noise : List Sample) (k : ℕ) (plain : Cx) → length samples ≡ length noise → k < length samples → IsNearPlain bound (sample_at samples k) plain → IsSampleWithin size (sample_at samples k)
    → IsSampleWithin more (sample_at noise k) → size + more ≤ 32767 → IsNearPlain (bound + more) (sample_at (held_sums samples noise) k) plain
sums_near bound more size samples noise k plain long inside near within loud fits =
    subst (λ sum. IsNearPlain (bound + more) sum plain) (sym (held_sums-at samples noise k long inside))
    (sum_near bound more size (sample_at samples k) (sample_at noise k) plain near within loud fits)

silent_near : (bound : ℕ) → IsNearPlain bound silent zero_pair
silent_near bound = record { i = omega arith; q = omega arith }

silent_within : (bound : ℕ) → IsSampleWithin bound silent
silent_within bound = record { i = omega arith; q = omega arith }

-- ---- a frame after its script
module _ (frame : SentFrame) (more seed : ℕ) where
  sent : List Sample
  sent = sent_frame frame.rate frame.seed frame.psdu

  front : List Sample
  front = silence frame.start ++ sent

  noise : List Sample
  noise = noise_samples more (frame.start + length sent) (generator_of seed)

  is_scripted : scripted more seed frame ≡ held_sums front noise ++ silence 100
  unfolding scripted sent front noise
  is_scripted = after_frame frame.start more seed 100 (sent_frame frame.rate frame.seed frame.psdu)

  length-sent : length sent ≡ samples_of frame
  unfolding sent
  length-sent = length-frame sent_body frame.rate frame.seed frame.psdu

  length-gap : length (silence frame.start) ≡ frame.start
  length-gap = length-replicate {A = Sample} frame.start silent

  length-front : length front ≡ end_of_sent frame
  unfolding front
  length-front = omega (arith, length-append (silence frame.start) sent, length-gap, length-sent)

  front_noise : length front ≡ length noise
  unfolding noise
  front_noise = omega (arith, length-front, length-sent, length-noise more (frame.start + length sent) (generator_of seed))

  length-noisy : length (held_sums front noise) ≡ end_of_sent frame
  length-noisy = length-held_sums front noise front_noise ∙ length-front

  pub length-scripted : length (scripted more seed frame) ≡ end_of_sent frame + 100
  length-scripted =
      ap length is_scripted ∙ omega (arith, length-append (held_sums front noise) (silence 100), length-noisy, length-replicate {A = Sample} 100 silent)

  noise_at : (k : ℕ) → k < end_of_sent frame → IsSampleWithin more (sample_at noise k)
  unfolding noise
  noise_at k inside = (noise_within more (frame.start + length sent) (generator_of seed)).each k (omega (arith, length-sent, length-noise more (frame.start + length sent) (generator_of seed)))

  front_at_gap : (k : ℕ) → k < frame.start → sample_at front k ≡ silent
  unfolding front
  front_at_gap k gap = get_or_append_left (silence frame.start) sent silent k (omega (arith, length-gap)) ∙ get_or-replicate frame.start k silent silent gap

  front_at_frame : (time : ℕ) → sample_at front (frame.start + time) ≡ sample_at sent time
  unfolding front
  front_at_frame time = ap (λ k. sample_at (silence frame.start ++ sent) (k + time)) (sym length-gap) ∙ get_or-append-add (silence frame.start) sent time silent

  at_front : (k : ℕ) → k < end_of_sent frame → sample_at (scripted more seed frame) k ≡ sample_at (held_sums front noise) k
  at_front k inside = ap (λ list. sample_at list k) is_scripted ∙ get_or_append_left (held_sums front noise) (silence 100) silent k (omega (arith, length-noisy))

  at_trail : (j : ℕ) → j < 100 → sample_at (scripted more seed frame) (end_of_sent frame + j) ≡ silent
  at_trail j inside =
      ap (λ list. sample_at list (end_of_sent frame + j)) is_scripted
      ∙ ap (λ k. sample_at (held_sums front noise ++ silence 100) (k + j)) (sym length-noisy)
      ∙ get_or-append-add (held_sums front noise) (silence 100) j silent ∙ get_or-replicate 100 j silent silent inside

  module _ (fits : 1 + more ≤ noise_bound_of frame) (most : noise_bound_of frame ≤ 64) where
    near_at : (k samples : ℕ) → samples ≡ end_of_sent frame + 100 → k < samples
        → IsNearPlain (bound_at noise_bound_of 64 (frame ∷ []) k) (sample_at (scripted more seed frame) k) (waveform_at (frame ∷ []) k)
    unfolding waveform_at bound_at sent
    near_at k samples long inside =
        elim (cases_lt k frame.start) [
          | inl gap ↦
              let there = silent_up_to_start noise_bound_of 64 0 samples frame [] k (omega arith, omega arith, tt) gap in
              let quiet = sums_near 0 more 0 front noise k zero_pair front_noise (omega (arith, length-front)) (rw (front_at_gap k gap) (silent_near 0)) (rw (front_at_gap k gap) (silent_within 0)) (noise_at k (omega arith)) (omega arith) in
              rw (there.0, there.1, at_front k (omega arith)) (near_wider (0 + more) 64 _ zero_pair (omega arith) quiet)
          | inr past ↦ elim (cases_lt k (end_of_sent frame)) [
            | inl within ↦
                let time = k - frame.start in
                let place : k ≡ frame.start + time = omega arith in
                let there = one_waveform noise_bound_of 64 0 samples frame [] time (omega arith, omega arith, tt) (omega arith) in
                let sent_near = (near_frame frame.rate frame.seed frame.psdu).each time (omega (arith, length-sent)) in
                let sent_small = (small_frame frame.rate frame.seed frame.psdu).each time (omega (arith, length-sent)) in
                let noisy = sums_near 1 more 25057 front noise (frame.start + time) (entry (plain_of frame) time) front_noise (omega (arith, length-front)) (rw (front_at_frame time) sent_near) (rw (front_at_frame time) sent_small) (noise_at (frame.start + time) (omega arith)) (omega arith) in
                rw (place, there.0, there.1, at_front (frame.start + time) (omega arith)) (near_wider (1 + more) (noise_bound_of frame) _ _ fits noisy)
            | inr behind ↦
                let j = k - end_of_sent frame in
                let place : k ≡ end_of_sent frame + j = omega arith in
                let there = others_behind noise_bound_of 64 frame [] (end_of_sent frame + j) (omega arith) in
                rw (place, there.0, there.1, at_trail j (omega arith)) (silent_near 64)
          ]
        ]

    pub near_scripted : AreNear noise_bound_of 64 (scripted more seed frame) (frame ∷ [])
    near_scripted = record {
      some = omega arith;
      stand = (omega arith, omega (arith, length-scripted), tt);
      near = λ place inside. near_at place (length (scripted more seed frame)) length-scripted inside;
    }

-- what a script makes of the sent samples
pub is_scripted_by : (frame : SentFrame) (bound seed : ℕ) (items : List Item) (samples after : List Sample) → items ≡ Lead frame.start ∷ Uniform bound seed ∷ Trail 100 ∷ [] → samples ≡ sent_frame frame.rate frame.seed frame.psdu
    → after ≡ after_items items samples → after ≡ scripted bound seed frame
unfolding scripted
is_scripted_by frame bound seed items samples after items_are samples_are is =
    is ∙ ap (λ list. after_items list samples) items_are ∙ ap (after_items (Lead frame.start ∷ Uniform bound seed ∷ Trail 100 ∷ [])) samples_are

pub scripted_few : (frame : SentFrame) (bound seed : ℕ) (samples : List Sample) → samples ≡ sent_frame frame.rate frame.seed frame.psdu → length samples ≤ 109680 → frame.start ≤ 2047 → length (scripted bound seed frame) ≤ 111827
scripted_few frame bound seed samples are few lead =
    let size : length samples ≡ samples_of frame = ap length are ∙ length-frame sent_body frame.rate frame.seed frame.psdu in
    omega (arith, size, length-scripted frame bound seed)

-- ---- the laws
all_one : (frame : SentFrame) → IsFrame frame → All IsFrame (frame ∷ [])
all_one frame is zero d below = is
all_one frame is (suc k) d below = absurd (omega arith)

pub first_is_in_noise : FirstIsInNoise
first_is_in_noise number =
    let bounds = noise_bound_from (drawn number).rate in
    record {
      may_be_sent = all_one (drawn number) (drawn_is_frame number);
      near = near_scripted (drawn number) (noise_bound_of (drawn number) - 1) number (omega arith) bounds.1;
    }

pub first_comes_back : FirstComesBack
first_comes_back number =
    let has = first_is_in_noise number in noise_is_withstood _ (drawn number ∷ []) has.may_be_sent has.near

-- with noise of the bound less 1, and so drawn, it does
pub quiet_back : (number : ℕ) (frame : SentFrame) (bound : ℕ) → frame ≡ drawn number → bound ≡ noise_bound_of frame - 1 → ComesBack (scripted bound number frame) frame
quiet_back number frame bound same is =
    let Back : SentFrame → Type 0 = λ f. ComesBack (scripted (noise_bound_of f - 1) number f) f in
    subst (λ b. ComesBack (scripted b number frame) frame) (sym is) (subst Back (sym same) (first_comes_back number))
