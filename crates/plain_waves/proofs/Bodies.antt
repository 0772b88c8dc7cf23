-- The samples of a body that is sent, and what is made of them by taking them at times.
use Rattle.std.proofs.Common.{◌≡◌, ℕ, ◌<◌, List, length, map, ap, ◌∙◌, arith}
use Rattle.std.specs.List.{range_with_len}
use Rattle.std.proofs.lemmas.List.FromFn.{length-map-range_with_len}
use Rattle.fixed_complex.specs.declared.Cx.{Cx}
use Rattle.fixed_complex.specs.declared.Sample.{Sample}
use Rattle.fixed_complex.specs.PairLists.{entry}
use Rattle.fixed_complex.specs.Samples.{sample_at, SamplesWithin, IsSampleWithin}
use Rattle.plain_waves.specs.Bodies.{all_times, plain_body, sent_body}
use Rattle.plain_waves.specs.Nearness.{AreNearPlain, IsNearPlain}
use Rattle.plain_waves.proofs.Places.{near-map, plain_body-local, sent_body-local, within-map}
use Rattle.fixed_complex.proofs.PairLists.{entry-map}
use Rattle.fixed_complex.proofs.Samples.{sample-map}

-- samples are the body of what is carried by bin: exactly, near the plain body, and within their bound
pub record IsBody (carried : ℕ → Cx) (samples : List Sample) : Type 0 where
  pub exact : (n : ℕ) → n < 64 → sample_at samples n ≡ sent_body carried n
  pub near : (n : ℕ) → n < 64 → IsNearPlain 1 (sample_at samples n) (plain_body carried n)
  pub within : (n : ℕ) → n < 64 → IsSampleWithin 25057 (sample_at samples n)

-- so are the samples that are sent for a list of carriers
pub is_body : (xs : List Cx) (carried : ℕ → Cx) (samples : List Sample) → ((bin : ℕ) → bin < 64 → entry xs bin ≡ carried bin) → samples ≡ all_times (sent_body (entry xs)) → AreNearPlain 1 samples (all_times (plain_body (entry xs))) → SamplesWithin 25057 samples → IsBody carried samples
is_body xs carried samples same e near within =
    let long : length samples ≡ 64 = ap length e ∙ length-map-range_with_len (sent_body (entry xs)) 0 64 in
    record {
      exact = λ n lt. ap (λ s. sample_at s n) e ∙ sample-map (sent_body (entry xs)) 64 n lt ∙ sent_body-local (entry xs) carried same n;
      near = λ n lt.
          let plain = entry-map (plain_body (entry xs)) 64 n lt ∙ plain_body-local (entry xs) carried same n in
          rw (← plain) (near.each n (omega arith));
      within = λ n lt. within.each n (omega arith);
    }

-- a body at places, which are below 64
pub exact-at : (carried : ℕ → Cx) (samples : List Sample) (place : ℕ → ℕ) (size : ℕ) → IsBody carried samples → ((time : ℕ) → place time < 64) → map (λ time. sample_at samples (place time)) (range_with_len 0 size) ≡ map (λ time. sent_body carried (place time)) (range_with_len 0 size)
exact-at carried samples place size body below = ap (λ f. map f (range_with_len 0 size)) (λ i time. body.exact (place time) (below time) i)

pub near-at : (carried : ℕ → Cx) (samples : List Sample) (place : ℕ → ℕ) (size : ℕ) → IsBody carried samples → ((time : ℕ) → place time < 64) → AreNearPlain 1 (map (λ time. sample_at samples (place time)) (range_with_len 0 size)) (map (λ time. plain_body carried (place time)) (range_with_len 0 size))
near-at carried samples place size body below = near-map 1 _ _ size (λ time lt. body.near (place time) (below time))

pub within-at : (carried : ℕ → Cx) (samples : List Sample) (place : ℕ → ℕ) (size : ℕ) → IsBody carried samples → ((time : ℕ) → place time < 64) → SamplesWithin 25057 (map (λ time. sample_at samples (place time)) (range_with_len 0 size))
within-at carried samples place size body below = within-map 25057 _ size (λ time lt. body.within (place time) (below time))
