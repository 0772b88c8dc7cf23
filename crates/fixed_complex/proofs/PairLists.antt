-- Lists of pairs place by place, and bounds on them.
use Rattle.std.proofs.Common.{ℕ, ◌<◌, List, length, set, replicate, inl, inr, arith, ◌≡◌, ◌*◌, ◌^◌, map, sym, ◌∙◌}
use Rattle.std.proofs.lemmas.Bool.{cases_eq, cases_lt}
use Rattle.std.proofs.lemmas.List.{get_or-set_same, get_or-set_other, length-set, get_or_past, ext_get_or}
use Rattle.std.proofs.lemmas.Simd.{get_or-replicate, length-replicate}
use Rattle.fixed_complex.specs.declared.Cx.{Cx}
use Rattle.fixed_complex.specs.Pairs.{IsWithin, zero_pair, IsOfSize}
use Rattle.fixed_complex.specs.PairLists.{PairsWithin, entry, PairsOfSize}
use Rattle.std.specs.List.{range_with_len}
use Rattle.std.proofs.lemmas.List.FromFn.{length-map-range_with_len, get_or-map-range_with_len}
use Rattle.integer_laws.proofs.Order.{pos-le}
use Rattle.fixed_complex.proofs.PairSizes.{size-within}

-- one entry replaced
pub within-set : (bound : ℕ) (xs : List Cx) (i : ℕ) (x : Cx) → PairsWithin bound xs → IsWithin bound x → PairsWithin bound (set xs i x)
within-set bound xs i x w x_within = record {
  each = λ n lt.
      let below : n < length xs = omega (arith, length-set xs i x) in
      elim (cases_eq n i) [
        | inl here ↦ let inside : i < length xs = omega arith in rw (here, get_or-set_same xs i x zero_pair inside) x_within
        | inr there ↦ rw (get_or-set_other xs i n x zero_pair there) (w.each n below)
      ];
}

-- zeros
pub within-zeros : (bound size : ℕ) → PairsWithin bound (replicate size zero_pair)
within-zeros bound size = record {
  each = λ n lt.
      let below : n < size = omega (arith, length-replicate size zero_pair) in
      rw (get_or-replicate size n zero_pair zero_pair below) (record { re = omega arith; im = omega arith });
}

-- ---- lists by place
pub entry-map : (f : ℕ → Cx) (size n : ℕ) → n < size → entry (map f (range_with_len 0 size)) n ≡ f n
entry-map f size n lt = get_or-map-range_with_len f 0 size n n zero_pair lt (omega arith)

-- a list of 64 pairs is given by its places
pub is_by_place : (f : ℕ → Cx) (pairs : List Cx) → length pairs ≡ 64 → ((n : ℕ) → n < 64 → entry pairs n ≡ f n) → pairs ≡ map f (range_with_len 0 64)
is_by_place f pairs long h =
    ext_get_or zero_pair pairs (map f (range_with_len 0 64)) (long ∙ sym (length-map-range_with_len f 0 64))
    (λ n lt. let below : n < 64 = omega arith in h n below ∙ sym (entry-map f 64 n below))

-- ---- a bound on a list holds past its end too, where the pairs are 0
pub everywhere_within : (bound : ℕ) (pairs : List Cx) → PairsWithin bound pairs → (n : ℕ) → IsWithin bound (entry pairs n)
everywhere_within bound pairs within n =
    elim (cases_lt n (length pairs)) [
      | inl here ↦ within.each n here
      | inr past ↦ rw (get_or_past pairs n zero_pair past) (record { re = omega arith; im = omega arith })
    ]

pub everywhere_of_size : (bound : ℕ) (pairs : List Cx) → PairsOfSize bound pairs → (n : ℕ) → IsOfSize bound (entry pairs n)
everywhere_of_size bound pairs sizes n =
    elim (cases_lt n (length pairs)) [
      | inl here ↦ sizes.each n here
      | inr past ↦ rw (get_or_past pairs n zero_pair past) (record { size = pos-le 0 (bound * bound) (omega arith) })
    ]

-- pairs with components of at most 2^30 are at most 2^31 in size
pub of_size-within : (pairs : List Cx) → PairsWithin (2 ^ 30) pairs → PairsOfSize (2 ^ 31) pairs
of_size-within pairs within = record { each = λ n lt. size-within (2 ^ 30) (entry pairs n) (within.each n lt) }
