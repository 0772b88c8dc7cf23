-- The tables of places, tried at every place of the four sizes of a symbol.
use Rattle.std.proofs.Common.{◌≡◌, ℕ, ◌/◌, ◌<◌, ◌≢◌, true, List, eqb, get_or, refl}
use Rattle.std.proofs.lemmas.Bool.{agree_below, agree_below_at, eqb-true}
use Rattle.rate_table.specs.declared.Rate.{Rate}
use Rattle.rate_table.specs.Table.{row_of}
use Rattle.rate_table.proofs.ByRate.{by_rate}
use Rattle.interleave_two.specs.Place.{place_in, interleaved_place, source_of}
use Rattle.interleave_two.proofs.Ways.{source_in, source_of-by_formula}

-- a carrier has a bit for each 48 of a symbol
carrier_bits : (rate : Rate) → (row_of rate).bits_per_carrier ≡ (row_of rate).coded_bits / 48
carrier_bits = by_rate (λ r. (row_of r).bits_per_carrier ≡ (row_of r).coded_bits / 48) refl refl refl refl refl refl refl refl

-- the fourth size
pub largest : (rate : Rate) → (row_of rate).coded_bits ≢ 48 → (row_of rate).coded_bits ≢ 96 → (row_of rate).coded_bits ≢ 192 → (row_of rate).coded_bits ≡ 288
largest =
    by_rate (λ r. (row_of r).coded_bits ≢ 48 → (row_of r).coded_bits ≢ 96 → (row_of r).coded_bits ≢ 192 → (row_of r).coded_bits ≡ 288)
    (λ p q r. absurd (p refl)) (λ p q r. absurd (p refl)) (λ p q r. absurd (q refl)) (λ p q r. absurd (q refl)) (λ p q r. absurd (r refl)) (λ p q r. absurd (r refl)) (λ p q r. refl) (λ p q r. refl)

-- a table of the places to which bits go
abbrev pub ArePlaces : ℕ → List ℕ → Type 0
ArePlaces n table = agree_below (λ k. eqb (get_or table k 0) (place_in n (n / 48) k)) (λ _. true) n ≡ true

pub place_in_table : (rate : Rate) (n : ℕ) (table : List ℕ) → (row_of rate).coded_bits ≡ n → ArePlaces n table → (k : ℕ) → k < (row_of rate).coded_bits → get_or table k 0 ≡ interleaved_place rate k
unfolding interleaved_place
place_in_table rate n table is tried k below =
    let here : get_or table k 0 ≡ place_in n (n / 48) k = eqb-true _ _ (agree_below_at (λ k. eqb (get_or table k 0) (place_in n (n / 48) k)) (λ _. true) n k tried (rw is at below)) in
    rw (carrier_bits rate, is) here

-- a table of the bits that go to places
abbrev pub AreSources : ℕ → List ℕ → Type 0
AreSources n table = agree_below (λ j. eqb (get_or table j 0) (source_in n (n / 48) j)) (λ _. true) n ≡ true

pub source_in_table : (rate : Rate) (n : ℕ) (table : List ℕ) → (row_of rate).coded_bits ≡ n → AreSources n table → (j : ℕ) → j < (row_of rate).coded_bits → get_or table j 0 ≡ source_of rate j
source_in_table rate n table is tried j below =
    let here : get_or table j 0 ≡ source_in n (n / 48) j = eqb-true _ _ (agree_below_at (λ j. eqb (get_or table j 0) (source_in n (n / 48) j)) (λ _. true) n j tried (rw is at below)) in
    rw (source_of-by_formula rate j below, carrier_bits rate, is) here
