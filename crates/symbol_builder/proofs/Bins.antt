-- Where the data numbers of a symbol stand.
use Rattle.std.proofs.Common.{◌≡◌, ◌≢◌, ℕ, ◌+◌, ◌<◌, Bool, true, nat_lt, eqb, List, slice_index_or, if◌then◌else◌, refl, ap, sym, ◌∙◌, arith, inl, inr}
use Rattle.std.proofs.lemmas.Bool.{cases_lt, eqb-true, lt-ltb, le-ltb, agree_below_at}
use Rattle.fixed_complex.specs.declared.Cx.{Cx}
use Rattle.fixed_complex.specs.Pairs.{zero_pair}
use Rattle.carrier_bins.specs.Carriers.{bin_of, data_carrier_of}
use Rattle.carrier_bins.specs.Bins.{carrier_in}
use Rattle.symbol_builder.specs.Carriers.{data_number_in, pilot_at, symbol_bin}

-- each data number is that of its carrier's bin
pub number_there : (k : ℕ) → k < 48 → data_number_in (bin_of (data_carrier_of k)) ≡ k
unfolding data_number_in bin_of data_carrier_of
number_there k lt = eqb-true _ _ (agree_below_at (λ k. eqb (data_number_in (bin_of (data_carrier_of k))) k) (λ _. true) 48 k refl lt)

-- and its bin is the one where it was found
back_test : ℕ → Bool
back_test bin = if nat_lt (data_number_in bin) 48 then eqb (bin_of (data_carrier_of (data_number_in bin))) bin else true

back_passes : (bin : ℕ) → bin < 64 → back_test bin ≡ true
unfolding back_test data_number_in bin_of data_carrier_of
back_passes bin lt = agree_below_at back_test (λ _. true) 64 bin refl lt

pub bin_there : (bin : ℕ) → bin < 64 → data_number_in bin < 48 → bin_of (data_carrier_of (data_number_in bin)) ≡ bin
unfolding back_test
bin_there bin lt inside = eqb-true _ _ (rw (lt-ltb (data_number_in bin) 48 inside) at (back_passes bin lt))

-- a bin while the points of the first data numbers are placed
unfoldable pub placed : List Cx → ℕ → ℕ → ℕ → Cx
placed points n k bin =
    if nat_lt (data_number_in bin) k then slice_index_or points (data_number_in bin) zero_pair else pilot_at n (carrier_in bin)

pub none_placed : (points : List Cx) (n bin : ℕ) → placed points n 0 bin ≡ pilot_at n (carrier_in bin)
unfolding placed
none_placed points n bin = rw (le-ltb (data_number_in bin) 0 (omega arith)) refl

pub all_placed : (points : List Cx) (n bin : ℕ) → placed points n 48 bin ≡ symbol_bin points n bin
unfolding placed symbol_bin
all_placed points n bin = refl

pub one_placed : (points : List Cx) (n k : ℕ) → k < 48 → slice_index_or points k zero_pair ≡ placed points n (k + 1) (bin_of (data_carrier_of k))
unfolding placed
one_placed points n k lt = rw (number_there k lt, lt-ltb k (k + 1) (omega arith)) refl

same_test : (m k : ℕ) → m ≢ k → nat_lt m k ≡ nat_lt m (k + 1)
same_test m k other =
    elim (cases_lt m k) [
      | inl below ↦ lt-ltb m k below ∙ sym (lt-ltb m (k + 1) (omega arith))
      | inr past ↦ le-ltb m k past ∙ sym (le-ltb m (k + 1) (omega arith))
    ]

pub others_stay : (points : List Cx) (n k bin : ℕ) → bin < 64 → k < 48 → bin ≢ bin_of (data_carrier_of k) → placed points n k bin ≡ placed points n (k + 1) bin
unfolding placed
others_stay points n k bin lt small other =
    let not_here : data_number_in bin ≢ k =
    λ e. other (sym (ap (λ j. bin_of (data_carrier_of j)) (sym e) ∙ bin_there bin lt (omega (arith, e)))) in
    ap (λ b. if b then slice_index_or points (data_number_in bin) zero_pair else pilot_at n (carrier_in bin)) (same_test (data_number_in bin) k not_here)

-- what stands in a bin of a symbol
pub point_there : (points : List Cx) (n k : ℕ) → k < 48 → symbol_bin points n (bin_of (data_carrier_of k)) ≡ slice_index_or points k zero_pair
unfolding symbol_bin
point_there points n k lt = rw (number_there k lt, lt-ltb k 48 lt) refl

pub pilot_there : (points : List Cx) (n bin : ℕ) → bin < 64 → ((k : ℕ) → k < 48 → bin_of (data_carrier_of k) ≢ bin) → symbol_bin points n bin ≡ pilot_at n (carrier_in bin)
unfolding symbol_bin
pilot_there points n bin lt none =
    elim (cases_lt (data_number_in bin) 48) [
      | inl inside ↦ absurd (none (data_number_in bin) inside (bin_there bin lt inside))
      | inr past ↦ rw (le-ltb (data_number_in bin) 48 past) refl
    ]
