use Rattle.std.proofs.Common.{◌≡◌, ℕ, ◌+◌, ◌%◌, ◌<◌, ◌++◌, List, [], ◌∷◌, length, map, refl, ap, sym, ◌∙◌, arith}
use Rattle.std.specs.List.{range_with_len}
use Rattle.std.proofs.lemmas.List.{map-append}
use Rattle.std.proofs.lemmas.List.FromFn.{length-map-range_with_len}
use Rattle.fixed_complex.specs.declared.Cx.{Cx}
use Rattle.fixed_complex.specs.declared.Sample.{Sample}
use Rattle.fixed_complex.specs.PairLists.{entry}
use Rattle.fixed_complex.specs.Samples.{sample_at, SamplesWithin}
use Rattle.carrier_bins.specs.Bins.{by_bin}
use Rattle.plain_waves.specs.Bodies.{all_times, plain_body, plain_sample, sample_of}
use Rattle.training_fields.specs.Training.{long_carrier, long_times, short_carrier, short_times, template_of}
use Rattle.training_fields.proofs.Fields.{long_fits, long_within, short_fits, short_within}
use Rattle.plain_waves.proofs.Places.{plain_body-local, within-append, within-map}
use Rattle.fixed_complex.proofs.PairLists.{entry-map}
use Rattle.fixed_complex.proofs.Samples.{sample-map}
use Rattle.training_fields.proofs.template.Goals as goal

pub plain_samples-requires-clause-within : goal.plain_samples-requires-clause-within
plain_samples-requires-clause-within c = rw c.short_carriers.ensures short_within

pub plain_samples-requires-clause-fits : goal.plain_samples-requires-clause-fits
plain_samples-requires-clause-fits c = rw c.short_carriers.ensures short_fits

pub plain_samples-requires-2-clause-within : goal.plain_samples-requires-2-clause-within
plain_samples-requires-2-clause-within c = rw c.long_carriers.ensures long_within

pub plain_samples-requires-2-clause-fits : goal.plain_samples-requires-2-clause-fits
plain_samples-requires-2-clause-fits c = rw c.long_carriers.ensures long_fits

-- a body of plain samples at places
plain-at : (xs : List Cx) (carried : ℕ → Cx) (samples : List Sample) (place : ℕ → ℕ) (size : ℕ) → ((bin : ℕ) → bin < 64 → entry xs bin ≡ carried bin) → samples ≡ all_times (plain_sample (entry xs)) → ((time : ℕ) → place time < 64) → map (λ time. sample_at samples (place time)) (range_with_len 0 size) ≡ map (λ time. plain_sample carried (place time)) (range_with_len 0 size)
plain-at xs carried samples place size same e below =
    let here : (n : ℕ) → n < 64 → sample_at samples n ≡ plain_sample carried n =
    λ n lt. ap (λ s. sample_at s n) e ∙ sample-map (plain_sample (entry xs)) 64 n lt ∙ ap (sample_of 21) (plain_body-local (entry xs) carried same n) in
    ap (λ f. map f (range_with_len 0 size)) (λ i time. here (place time) (below time) i)

-- rounding place by place
rounded : (f : ℕ → Cx) (ns : List ℕ) → map (λ n. sample_of 21 (f n)) ns ≡ map (sample_of 21) (map f ns)
rounded f [] = refl
rounded f (n ∷ ns) = ap (λ rest. sample_of 21 (f n) ∷ rest) (rounded f ns)

both_rounded : short_times (plain_sample (by_bin short_carrier)) ++ long_times (plain_sample (by_bin long_carrier)) ≡ template_of
both_rounded =
    let short = plain_body (by_bin short_carrier) in
    let long = plain_body (by_bin long_carrier) in
    ap (λ xs. xs ++ long_times (plain_sample (by_bin long_carrier))) (rounded (λ time. short (time % 64)) (range_with_len 0 160))
    ∙ ap (λ ys. map (sample_of 21) (short_times short) ++ ys) (rounded (λ time. long ((time + 32) % 64)) (range_with_len 0 160))
    ∙ sym (map-append (sample_of 21) (short_times short) (long_times long))

plain_within-at : (samples : List Sample) (place : ℕ → ℕ) (size : ℕ) → length samples ≡ 64 → SamplesWithin 25057 samples → ((time : ℕ) → place time < 64) → SamplesWithin 25057 (map (λ time. sample_at samples (place time)) (range_with_len 0 size))
plain_within-at samples place size long within below = within-map 25057 _ size (λ time lt. within.each (place time) (omega (arith, below time, long)))

pub returns : goal.returns
returns c =
    let short : short_times (sample_at c.plain_samples.result) ≡ short_times (plain_sample (by_bin short_carrier)) =
    plain-at c.short_carriers.result (by_bin short_carrier) c.plain_samples.result (λ time. time % 64) 160 (λ bin lt. ap (λ xs. entry xs bin) c.short_carriers.ensures ∙ entry-map (by_bin short_carrier) 64 bin lt) c.plain_samples.ensures.samples (λ time. omega arith) in
    let long : long_times (sample_at c.plain_samples-2.result) ≡ long_times (plain_sample (by_bin long_carrier)) =
    plain-at c.long_carriers.result (by_bin long_carrier) c.plain_samples-2.result (λ time. (time + 32) % 64) 160 (λ bin lt. ap (λ xs. entry xs bin) c.long_carriers.ensures ∙ entry-map (by_bin long_carrier) 64 bin lt) c.plain_samples-2.ensures.samples (λ time. omega arith) in
    let short_length : length c.plain_samples.result ≡ 64 = ap length c.plain_samples.ensures.samples ∙ length-map-range_with_len (plain_sample (entry c.short_carriers.result)) 0 64 in
    let long_length : length c.plain_samples-2.result ≡ 64 = ap length c.plain_samples-2.ensures.samples ∙ length-map-range_with_len (plain_sample (entry c.long_carriers.result)) 0 64 in
    record {
      samples =
          c.in_time.ensures
          ∙ ap (λ xs. xs ++ long_times (sample_at c.plain_samples-2.result)) short
          ∙ ap (λ ys. short_times (plain_sample (by_bin short_carrier)) ++ ys) long
          ∙ both_rounded;
      within =
          rw c.in_time.ensures
          (within-append 25057 _ _
          (plain_within-at c.plain_samples.result (λ time. time % 64) 160 short_length c.plain_samples.ensures.within (λ time. omega arith))
          (plain_within-at c.plain_samples-2.result (λ time. (time + 32) % 64) 160 long_length c.plain_samples-2.ensures.within (λ time. omega arith)));
    }
