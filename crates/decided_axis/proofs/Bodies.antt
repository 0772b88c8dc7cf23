-- Bodies that come back over a channel: the estimate by the long training field, and a symbol's bits.
use Rattle.std.proofs.Common.{◌≡◌, ℕ, ◌*◌, ◌<◌, true, eqb, List, refl, ap, subst, ◌∙◌, pos, ◌*ℤ◌, unsigned_abs}
use Rattle.std.proofs.lemmas.Bool.{agree_below_at, eqb-true}
use Rattle.integer_laws.proofs.Order.{square_is}
use Rattle.fixed_complex.specs.declared.Cx.{Cx}
use Rattle.fixed_complex.specs.PairLists.{entry}
use Rattle.fixed_complex.specs.Pairs.{multiple, plus}
use Rattle.fixed_complex.proofs.PairLists.{entry-map}
use Rattle.carrier_bins.specs.Bins.{carrier_in}
use Rattle.carrier_bins.specs.Carriers.{bin_of, data_carrier_of}
use Rattle.carrier_bins.specs.Signs.{sign_at}
use Rattle.training_fields.specs.Training.{long_sign_of}
use Rattle.symbol_builder.specs.Points.{points_of_code}
use Rattle.symbol_builder.proofs.Bins.{point_there}
use Rattle.carrier_equaliser.specs.Estimates.{estimate_at, estimate_of}
use Rattle.decided_axis.specs.Channels.{IsCarried}
use Rattle.decided_axis.specs.Laws.{DecidedByBodies, EstimatedByBodies, data_bin}
use Rattle.decided_axis.proofs.Channels.{by_two}
use Rattle.decided_axis.proofs.Symbols.{data_bin-lt, symbol_decided}

-- ---- the signs of data numbers in the long training field
has_sign : (k : ℕ) → k < 48 → eqb (unsigned_abs (long_sign_of (carrier_in (data_bin k)))) 1 ≡ true
unfolding bin_of data_carrier_of sign_at
has_sign k lt = agree_below_at (λ k. eqb (unsigned_abs (long_sign_of (carrier_in (data_bin k)))) 1) (λ _. true) 48 k refl lt

pub sign_squared : (k : ℕ) → k < 48 → long_sign_of (carrier_in (data_bin k)) *ℤ long_sign_of (carrier_in (data_bin k)) ≡ pos 1
sign_squared k lt = square_is (long_sign_of (carrier_in (data_bin k))) ∙ ap (λ n. pos (n * n)) (eqb-true _ _ (has_sign k lt))

-- ---- the estimate
estimate_there : (first second : List Cx) (bin : ℕ) → bin < 64 → entry (estimate_of first second) bin ≡ multiple (long_sign_of (carrier_in bin)) (plus (entry first bin) (entry second bin))
unfolding estimate_of
estimate_there first second bin lt = entry-map (estimate_at first second) 64 bin lt

pub estimated_by_bodies : EstimatedByBodies
estimated_by_bodies scale error channel first second bin lt one near next =
    rw (estimate_there first second bin lt)
    (by_two scale error (long_sign_of (carrier_in bin)) (channel bin) (entry first bin) (entry second bin) one (near bin lt) (next bin lt))

-- ---- a symbol
pub decided_by_bodies : DecidedByBodies
decided_by_bodies rate scale error least left number bits channel first second symbol are long allows near next carries large =
    let points = points_of_code rate bits in
    symbol_decided rate scale error (2 * error) least left bits (λ k. channel (data_bin k)) (estimate_of first second) symbol are long allows
    (λ k lt.
    let bin = data_bin k in
    let below = data_bin-lt k lt in
    record {
      carries = subst (λ x. IsCarried scale error (channel bin) x (entry symbol bin)) (point_there points number k lt) (carries bin below);
      estimates = estimated_by_bodies scale error channel first second bin below (sign_squared k lt) near next;
      large = large bin below;
    })
