-- What the training fields carry is within its bounds.
use Rattle.std.proofs.Common.{◌≡◌, ℕ, ◌*◌, ◌<◌, ◌≤◌, Bool, true, ◌&&◌, map, sum, refl, arith, unsigned_abs}
use Rattle.std.specs.List.{range_with_len}
use Rattle.std.proofs.lemmas.Bool.{leb-true, agree_below_at, and_parts}
use Rattle.std.proofs.lemmas.List.FromFn.{length-map-range_with_len}
use Rattle.fixed_complex.specs.declared.Cx.{Cx}
use Rattle.fixed_complex.specs.Pairs.{IsOfSize, IsWithin}
use Rattle.fixed_complex.specs.PairLists.{PairsWithin}
use Rattle.carrier_bins.specs.Bins.{all_bins, by_bin, carrier_in}
use Rattle.plain_waves.specs.Bounds.{FitASample}
use Rattle.carrier_bins.specs.Signs.{sign_at}
use Rattle.training_fields.specs.Training.{long_carrier, long_sign_of, short_carrier, short_sign_of}
use Rattle.fixed_complex.proofs.PairLists.{entry-map}
use Rattle.fixed_complex.proofs.ByTable.{is_of_size, is_within, size_test, within_test}

-- a pair is of a size and within a bound, as a test
abbrev pub fits_test : ℕ → ℕ → Cx → Bool
fits_test size bound x = size_test size x && within_test bound x

pub of_size : (size bound : ℕ) (x : Cx) → fits_test size bound x ≡ true → IsOfSize size x
of_size size bound x h = is_of_size size x (and_parts (size_test size x) (within_test bound x) h).0

pub of_bound : (size bound : ℕ) (x : Cx) → fits_test size bound x ≡ true → IsWithin bound x
of_bound size bound x h = is_within bound x (and_parts (size_test size x) (within_test bound x) h).1

-- carriers that pass the test in each bin
pub carriers_within : (sizes : ℕ → ℕ) (bound : ℕ) (x : ℕ → Cx) → ((bin : ℕ) → bin < 64 → fits_test (sizes bin) bound (x bin) ≡ true) → PairsWithin bound (map x (range_with_len 0 64))
carriers_within sizes bound x h = record {
  each = λ bin lt.
      let below : bin < 64 = omega (arith, length-map-range_with_len x 0 64) in
      rw (entry-map x 64 bin below) (of_bound (sizes bin) bound (x bin) (h bin below));
}

pub carriers_fit : (sizes : ℕ → ℕ) (bound : ℕ) (x : ℕ → Cx) → ((bin : ℕ) → bin < 64 → fits_test (sizes bin) bound (x bin) ≡ true) → sum (map sizes (range_with_len 0 64)) ≤ 50112 → FitASample (map x (range_with_len 0 64))
carriers_fit sizes bound x h total = record {
  sizes = sizes;
  each = λ bin below. rw (entry-map x 64 bin below) (of_size (sizes bin) bound (x bin) (h bin below));
  total = total;
}

-- the short training field: twelve carriers of at most 1350
short_size : ℕ → ℕ
short_size bin = 1350 * unsigned_abs (short_sign_of (carrier_in bin))

short_passes : (bin : ℕ) → bin < 64 → fits_test (short_size bin) 954 (by_bin short_carrier bin) ≡ true
unfolding sign_at short_size
short_passes bin lt = agree_below_at (λ bin. fits_test (short_size bin) 954 (by_bin short_carrier bin)) (λ _. true) 64 bin refl lt

short_total : sum (map short_size (range_with_len 0 64)) ≤ 50112
unfolding sign_at short_size
short_total = leb-true _ _ refl

pub short_within : PairsWithin 954 (all_bins short_carrier)
short_within = carriers_within short_size 954 (by_bin short_carrier) short_passes

pub short_fits : FitASample (all_bins short_carrier)
short_fits = carriers_fit short_size 954 (by_bin short_carrier) short_passes short_total

-- the long one: 52 carriers of 648
long_size : ℕ → ℕ
long_size bin = 648 * unsigned_abs (long_sign_of (carrier_in bin))

long_passes : (bin : ℕ) → bin < 64 → fits_test (long_size bin) 954 (by_bin long_carrier bin) ≡ true
unfolding sign_at long_size
long_passes bin lt = agree_below_at (λ bin. fits_test (long_size bin) 954 (by_bin long_carrier bin)) (λ _. true) 64 bin refl lt

long_total : sum (map long_size (range_with_len 0 64)) ≤ 50112
unfolding sign_at long_size
long_total = leb-true _ _ refl

pub long_within : PairsWithin 954 (all_bins long_carrier)
long_within = carriers_within long_size 954 (by_bin long_carrier) long_passes

pub long_fits : FitASample (all_bins long_carrier)
long_fits = carriers_fit long_size 954 (by_bin long_carrier) long_passes long_total
