use Rattle.std.proofs.Common.{◌≡◌, ℕ, ◌<◌, true, eqb, ltb, get_or, refl, ◌∙◌}
use Rattle.std.proofs.lemmas.Bool.{agree_below_at, eqb-true, ltb-true}
use Rattle.carrier_bins.specs.Carriers.{bin_of, data_carrier_of}
use Rattle.carrier_bins.specs.declared.TheConstants.{DATA_BINS}
use Rattle.carrier_bins.proofs.data_bin.Goals as goal

-- the table, entry by entry
bin_at : (k : ℕ) → k < 48 → get_or DATA_BINS k 0 ≡ bin_of (data_carrier_of k)
unfolding bin_of data_carrier_of
bin_at k h = eqb-true _ _ (agree_below_at (λ k. eqb (get_or DATA_BINS k 0) (bin_of (data_carrier_of k))) (λ _. true) 48 k refl h)

below_64 : (k : ℕ) → k < 48 → get_or DATA_BINS k 0 < 64
below_64 k h = ltb-true _ _ (agree_below_at (λ k. ltb (get_or DATA_BINS k 0) 64) (λ _. true) 48 k refl h)

pub returns-clause-bin : goal.returns-clause-bin
returns-clause-bin c = c.from.ensures ∙ bin_at c.args.k c.requires

pub returns-clause-within : goal.returns-clause-within
returns-clause-within c = rw c.from.ensures (below_64 c.args.k c.requires)
