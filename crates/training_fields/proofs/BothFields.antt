-- The sent samples of both training fields are near the plain ones, and small.
use Rattle.std.proofs.Common.{◌≡◌, ◌∙◌, ◌+◌, ◌%◌, ◌++◌, List, ap, subst, arith}
use Rattle.fixed_complex.specs.declared.Sample.{Sample}
use Rattle.fixed_complex.specs.PairLists.{entry}
use Rattle.fixed_complex.specs.Samples.{sample_at, SamplesWithin}
use Rattle.carrier_bins.specs.Bins.{all_bins, by_bin}
use Rattle.plain_waves.specs.Bodies.{all_times, plain_body, sent_body}
use Rattle.plain_waves.specs.Nearness.{AreNearPlain}
use Rattle.training_fields.specs.Training.{long_carrier, long_times, preamble_of, short_carrier, short_times}
use Rattle.plain_waves.proofs.Bodies.{IsBody, exact-at, near-at, within-at}
use Rattle.training_fields.proofs.Fields.{long_fits, long_within, short_fits, short_within}
use Rattle.plain_waves.proofs.Places.{near-append, within-append}
use Rattle.fixed_complex.proofs.PairLists.{entry-map}
use Rattle.plain_waves.proofs.Sent.{is_sent_body}

-- both bodies of the training fields at their times
pub both_exact : (short long : List Sample) → IsBody (by_bin short_carrier) short → IsBody (by_bin long_carrier) long → short_times (sample_at short) ++ long_times (sample_at long) ≡ preamble_of sent_body
both_exact short long of_short of_long =
    ap (λ xs. xs ++ long_times (sample_at long)) (exact-at (by_bin short_carrier) short (λ time. time % 64) 160 of_short (λ time. omega arith))
    ∙ ap (λ ys. short_times (sent_body (by_bin short_carrier)) ++ ys) (exact-at (by_bin long_carrier) long (λ time. (time + 32) % 64) 160 of_long (λ time. omega arith))

pub both_near : (short long : List Sample) → IsBody (by_bin short_carrier) short → IsBody (by_bin long_carrier) long → AreNearPlain 1 (short_times (sample_at short) ++ long_times (sample_at long)) (preamble_of plain_body)
both_near short long of_short of_long =
    near-append 1 _ _ _ _
    (near-at (by_bin short_carrier) short (λ time. time % 64) 160 of_short (λ time. omega arith))
    (near-at (by_bin long_carrier) long (λ time. (time + 32) % 64) 160 of_long (λ time. omega arith))

pub both_within : (short long : List Sample) → IsBody (by_bin short_carrier) short → IsBody (by_bin long_carrier) long → SamplesWithin 25057 (short_times (sample_at short) ++ long_times (sample_at long))
both_within short long of_short of_long =
    within-append 25057 _ _
    (within-at (by_bin short_carrier) short (λ time. time % 64) 160 of_short (λ time. omega arith))
    (within-at (by_bin long_carrier) long (λ time. (time + 32) % 64) 160 of_long (λ time. omega arith))

short_body : IsBody (by_bin short_carrier) (all_times (sent_body (entry (all_bins short_carrier))))
short_body = is_sent_body (all_bins short_carrier) (by_bin short_carrier) short_within short_fits (λ bin lt. entry-map (by_bin short_carrier) 64 bin lt)

long_body : IsBody (by_bin long_carrier) (all_times (sent_body (entry (all_bins long_carrier))))
long_body = is_sent_body (all_bins long_carrier) (by_bin long_carrier) long_within long_fits (λ bin lt. entry-map (by_bin long_carrier) 64 bin lt)

pub preamble_near : AreNearPlain 1 (preamble_of sent_body) (preamble_of plain_body)
preamble_near = subst (λ samples. AreNearPlain 1 samples (preamble_of plain_body)) (both_exact _ _ (short_body) (long_body)) (both_near _ _ (short_body) (long_body))

pub preamble_within : SamplesWithin 25057 (preamble_of sent_body)
preamble_within = subst (SamplesWithin 25057) (both_exact _ _ (short_body) (long_body)) (both_within _ _ (short_body) (long_body))
