-- That the way back undoes the two permutations and they undo it: tried at every place of the four sizes of a symbol.
use Rattle.std.proofs.Common.{◌≡◌, ℕ, ◌<◌, Bool, true, ◌&&◌, eqb, ltb, get_or, refl, ap, ◌∙◌, arith, eq-eqb}
use Rattle.std.specs.List.{range_with_len}
use Rattle.std.proofs.lemmas.Bool.{agree_below, agree_below_at, and_parts, eqb-true, ltb-true, ne_eqb}
use Rattle.std.proofs.lemmas.List.FromFn.{length-range_with_len, get_or-range_with_len}
use Rattle.std.proofs.lemmas.List.Sums.{position_or_len_is}
use Rattle.rate_table.specs.declared.Rate.{Rate}
use Rattle.rate_table.specs.declared.Rate.TheVariants.{R6, R9, R12, R18, R24, R36, R48, R54}
use Rattle.rate_table.specs.Table.{row_of}
use Rattle.interleave_two.specs.Place.{group_of, place_in, interleaved_place, source_of}
use Rattle.interleave_two.specs.Source.{first_source, second_source}

-- the bit that goes to place j, by the formulas, for N_CBPS and N_BPSC
abbrev pub source_in : ℕ → ℕ → ℕ → ℕ
source_in coded_bits bits_per_carrier j = first_source coded_bits (second_source coded_bits (group_of bits_per_carrier) j)

-- at place k: both ways stay among the N_CBPS places, and each undoes the other
abbrev goes_and_returns : ℕ → ℕ → ℕ → Bool
goes_and_returns n b k =
    (ltb (place_in n b k) n && ltb (source_in n b k) n) && (eqb (source_in n b (place_in n b k)) k && eqb (place_in n b (source_in n b k)) k)

-- the rule, tried at every place of a size
abbrev Permutes : ℕ → ℕ → Type 0
Permutes n b = agree_below (goes_and_returns n b) (λ _. true) n ≡ true

Permutes-48 : Permutes 48 1
Permutes-48 = refl

Permutes-96 : Permutes 96 2
Permutes-96 = refl

Permutes-192 : Permutes 192 4
Permutes-192 = refl

Permutes-288 : Permutes 288 6
Permutes-288 = refl

-- the rule, at one place of a symbol of a rate
record GoesAndReturns (n b k : ℕ) : Type 0 where
  place_within : place_in n b k < n
  source_within : source_in n b k < n
  place_returns : source_in n b (place_in n b k) ≡ k
  source_returns : place_in n b (source_in n b k) ≡ k

GoesAndReturns-at : (n b k : ℕ) → Permutes n b → k < n → GoesAndReturns n b k
GoesAndReturns-at n b k all below =
    let here = agree_below_at (goes_and_returns n b) (λ _. true) n k all below in
    let parts = and_parts _ _ here in
    let within = and_parts _ _ parts.0 in
    let returns = and_parts _ _ parts.1 in
    record {
      place_within = ltb-true _ _ within.0;
      source_within = ltb-true _ _ within.1;
      place_returns = eqb-true _ _ returns.0;
      source_returns = eqb-true _ _ returns.1;
    }

-- for each rate
abbrev RateGoesAndReturns : Rate → ℕ → Type 0
RateGoesAndReturns rate k = GoesAndReturns (row_of rate).coded_bits (row_of rate).bits_per_carrier k

goes : (rate : Rate) (k : ℕ) → k < (row_of rate).coded_bits → RateGoesAndReturns rate k
goes R6 k below = GoesAndReturns-at 48 1 k Permutes-48 below
goes R9 k below = GoesAndReturns-at 48 1 k Permutes-48 below
goes R12 k below = GoesAndReturns-at 96 2 k Permutes-96 below
goes R18 k below = GoesAndReturns-at 96 2 k Permutes-96 below
goes R24 k below = GoesAndReturns-at 192 4 k Permutes-192 below
goes R36 k below = GoesAndReturns-at 192 4 k Permutes-192 below
goes R48 k below = GoesAndReturns-at 288 6 k Permutes-288 below
goes R54 k below = GoesAndReturns-at 288 6 k Permutes-288 below

-- the formulas give the source
abbrev pub source_by_formula : Rate → ℕ → ℕ
source_by_formula rate j = source_in (row_of rate).coded_bits (row_of rate).bits_per_carrier j

pub source_of-by_formula : (rate : Rate) (j : ℕ) → j < (row_of rate).coded_bits → source_of rate j ≡ source_by_formula rate j
unfolding source_of interleaved_place
source_of-by_formula rate j below =
    let n = (row_of rate).coded_bits in
    let b = (row_of rate).bits_per_carrier in
    let source = goes rate j below in
    let places = range_with_len 0 n in
    let long = length-range_with_len 0 n in
    position_or_len_is (λ k. eqb (interleaved_place rate k) j) places (source_by_formula rate j) 0
    (let within = source.source_within in omega arith)
    (λ k before.
    let in_range : k < n = omega (arith, source.source_within) in
    let here : get_or places k 0 ≡ k = get_or-range_with_len 0 n k 0 in_range ∙ omega arith in
    ap (λ m. eqb (interleaved_place rate m) j) here
    ∙ ne_eqb (place_in n b k) j (λ e. let back = (goes rate k in_range).place_returns in let same = ap (source_in n b) e in absurd (omega arith)))
    (λ within.
    let in_range : source_by_formula rate j < n = source.source_within in
    let here : get_or places (source_by_formula rate j) 0 ≡ source_by_formula rate j = get_or-range_with_len 0 n (source_by_formula rate j) 0 in_range ∙ omega arith in
    ap (λ m. eqb (interleaved_place rate m) j) here ∙ eq-eqb (place_in n b (source_in n b j)) j source.source_returns)

pub interleaved_place-lt : (rate : Rate) (k : ℕ) → k < (row_of rate).coded_bits → interleaved_place rate k < (row_of rate).coded_bits
unfolding interleaved_place
interleaved_place-lt rate k below = (goes rate k below).place_within

pub source_of-lt : (rate : Rate) (j : ℕ) → j < (row_of rate).coded_bits → source_of rate j < (row_of rate).coded_bits
source_of-lt rate j below =
    let source = goes rate j below in omega (arith, source_of-by_formula rate j below, source.source_within)

pub source_of-interleaved_place : (rate : Rate) (k : ℕ) → k < (row_of rate).coded_bits → source_of rate (interleaved_place rate k) ≡ k
unfolding interleaved_place
source_of-interleaved_place rate k below =
    source_of-by_formula rate (interleaved_place rate k) (interleaved_place-lt rate k below) ∙ (goes rate k below).place_returns

pub interleaved_place-source_of : (rate : Rate) (j : ℕ) → j < (row_of rate).coded_bits → interleaved_place rate (source_of rate j) ≡ j
unfolding interleaved_place
interleaved_place-source_of rate j below =
    ap (interleaved_place rate) (source_of-by_formula rate j below) ∙ (goes rate j below).source_returns
