-- The sizes of what stands in the bins of a symbol.
use Rattle.std.proofs.Common.{ℕ, ◌*◌, ◌<◌, ◌≤◌, nat_lt, List, map, sum, refl, arith, inl, inr, unsigned_abs, if◌then◌else◌}
use Rattle.std.specs.List.{range_with_len}
use Rattle.std.proofs.lemmas.Bool.{cases_lt, leb-true, lt-ltb, le-ltb}
use Rattle.integer_laws.proofs.Sizes.{size_of_parts}
use Rattle.fixed_complex.specs.declared.Cx.{Cx}
use Rattle.fixed_complex.specs.Pairs.{IsOfSize, IsWithin}
use Rattle.fixed_complex.specs.PairLists.{PairsWithin, entry}
use Rattle.carrier_bins.specs.Carriers.{bin_of, data_carrier_of}
use Rattle.carrier_bins.specs.Bins.{carrier_in}
use Rattle.plain_waves.specs.Bounds.{FitASample}
use Rattle.carrier_bins.specs.Signs.{sign_at}
use Rattle.fixed_complex.proofs.PairLists.{entry-map, everywhere_within}
use Rattle.symbol_builder.specs.Carriers.{data_number_in, pilot_sign_of, symbol_bin, symbol_bins}
use Rattle.symbol_builder.proofs.Pilots.{pilot_size, pilot_within}

-- a point has a size of at most 990
point_size : (x : Cx) → IsWithin 700 x → IsOfSize 990 x
point_size x within = record { size = size_of_parts x.re x.im 700 700 990 within.re within.im (omega arith) }

-- a bound on the size of what stands in a bin
size_in : ℕ → ℕ
size_in bin = if nat_lt (data_number_in bin) 48 then 990 else 648 * unsigned_abs (pilot_sign_of (carrier_in bin))

symbol_size : (points : List Cx) (n : ℕ) → PairsWithin 700 points → (bin : ℕ) → bin < 64 → IsOfSize (size_in bin) (symbol_bin points n bin)
unfolding size_in symbol_bin
symbol_size points n within bin lt =
    elim (cases_lt (data_number_in bin) 48) [
      | inl inside ↦ rw (lt-ltb (data_number_in bin) 48 inside) (point_size (entry points (data_number_in bin)) (everywhere_within 700 points within (data_number_in bin)))
      | inr past ↦ rw (le-ltb (data_number_in bin) 48 past) (pilot_size n (carrier_in bin))
    ]

-- 48 points and four pilots
total_size : sum (map size_in (range_with_len 0 64)) ≤ 50112
unfolding size_in data_number_in bin_of data_carrier_of sign_at
total_size = leb-true _ _ refl

pub symbol_fits : (points : List Cx) (n : ℕ) → PairsWithin 700 points → FitASample (symbol_bins points n)
symbol_fits points n within = record {
  sizes = size_in;
  each = λ bin lt. rw (entry-map (symbol_bin points n) 64 bin lt) (symbol_size points n within bin lt);
  total = total_size;
}

pub symbol_within : (points : List Cx) (n : ℕ) → PairsWithin 700 points → (bin : ℕ) → bin < 64 → IsWithin 700 (symbol_bin points n bin)
unfolding symbol_bin
symbol_within points n within bin lt =
    elim (cases_lt (data_number_in bin) 48) [
      | inl inside ↦ rw (lt-ltb (data_number_in bin) 48 inside) (everywhere_within 700 points within (data_number_in bin))
      | inr past ↦ rw (le-ltb (data_number_in bin) 48 past) (pilot_within n bin lt)
    ]
