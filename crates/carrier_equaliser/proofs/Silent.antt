-- The estimate of a carrier for which L has no entry.
use Rattle.std.proofs.Common.{◌≡◌, ◌<◌, List, ap, ◌∙◌, refl, ℤ, pos, neg_ℤ, ◌*ℤ◌, ◌≤ℤ◌}
use Rattle.integer_laws.proofs.Ring.{ring, number, ◌⊗◌, ◌≗◌}
use Rattle.fixed_complex.specs.declared.Cx.{Cx}
use Rattle.fixed_complex.specs.PairLists.{entry}
use Rattle.fixed_complex.specs.Pairs.{multiple, plus, zero_pair}
use Rattle.fixed_complex.proofs.PairLists.{entry-map}
use Rattle.fixed_complex.proofs.Pairs.{same_parts}
use Rattle.carrier_bins.specs.Carriers.{bin_of}
use Rattle.carrier_bins.proofs.Bins.{carrier_back}
use Rattle.training_fields.specs.Training.{long_sign_of}
use Rattle.carrier_equaliser.specs.Estimates.{estimate_at, estimate_of}

none_times : (a : Cx) → multiple (pos 0) a ≡ zero_pair
none_times a = same_parts _ _ (law a.re) (law a.im)
  where
    law : (a : ℤ) → pos 0 *ℤ a ≡ pos 0
    law = ring 1 (λ a. number (pos 0) ⊗ a ≗ number (pos 0)) refl

pub estimate_silent : (first second : List Cx) (carrier : ℤ) → neg_ℤ (pos 32) ≤ℤ carrier → carrier ≤ℤ pos 31 → bin_of carrier < 64 → long_sign_of carrier ≡ pos 0
    → entry (estimate_of first second) (bin_of carrier) ≡ zero_pair
unfolding estimate_of
estimate_silent first second carrier least most below none =
    let bin = bin_of carrier in
    let sum = plus (entry first bin) (entry second bin) in
    entry-map (estimate_at first second) 64 bin below
    ∙ ap (λ c. multiple (long_sign_of c) sum) (carrier_back carrier least most)
    ∙ ap (λ sign. multiple sign sum) none ∙ none_times sum
