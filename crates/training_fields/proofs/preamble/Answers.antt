use Rattle.std.proofs.Common.{ap, ◌∙◌}
use Rattle.fixed_complex.specs.PairLists.{entry}
use Rattle.carrier_bins.specs.Bins.{by_bin}
use Rattle.training_fields.specs.Training.{long_carrier, short_carrier}
use Rattle.plain_waves.proofs.Bodies.{IsBody, is_body}
use Rattle.training_fields.proofs.Fields.{long_fits, long_within, short_fits, short_within}
use Rattle.fixed_complex.proofs.PairLists.{entry-map}
use Rattle.training_fields.proofs.BothFields.{both_exact, both_near, both_within}
use Rattle.training_fields.proofs.preamble.Goals as goal

pub sent_samples-requires-clause-within : goal.sent_samples-requires-clause-within
sent_samples-requires-clause-within c = rw c.short_carriers.ensures short_within

pub sent_samples-requires-clause-fits : goal.sent_samples-requires-clause-fits
sent_samples-requires-clause-fits c = rw c.short_carriers.ensures short_fits

pub sent_samples-requires-2-clause-within : goal.sent_samples-requires-2-clause-within
sent_samples-requires-2-clause-within c = rw c.long_carriers.ensures long_within

pub sent_samples-requires-2-clause-fits : goal.sent_samples-requires-2-clause-fits
sent_samples-requires-2-clause-fits c = rw c.long_carriers.ensures long_fits

pub returns : goal.returns
returns c =
    let short : IsBody (by_bin short_carrier) c.sent_samples.result =
    is_body c.short_carriers.result (by_bin short_carrier) _ (λ bin lt. ap (λ xs. entry xs bin) c.short_carriers.ensures ∙ entry-map (by_bin short_carrier) 64 bin lt) c.sent_samples.ensures.samples c.sent_samples.ensures.near c.sent_samples.ensures.within in
    let long : IsBody (by_bin long_carrier) c.sent_samples-2.result =
    is_body c.long_carriers.result (by_bin long_carrier) _ (λ bin lt. ap (λ xs. entry xs bin) c.long_carriers.ensures ∙ entry-map (by_bin long_carrier) 64 bin lt) c.sent_samples-2.ensures.samples c.sent_samples-2.ensures.near c.sent_samples-2.ensures.within in
    record {
      samples = c.in_time.ensures ∙ both_exact _ _ short long;
      near = rw c.in_time.ensures (both_near _ _ short long);
      within = rw c.in_time.ensures (both_within _ _ short long);
    }
