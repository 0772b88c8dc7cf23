-- Numbers of bits, and rates of patterns.
use Rattle.std.proofs.Common.{◌≡◌, ℕ, zero, suc, ◌+◌, ◌*◌, ◌^◌, ◌<◌, ◌≤◌, List, ◌∷◌, length, drop, get_or, refl, ◌∙◌, add-one, arith}
use Rattle.std.specs.Prelude.{Some, None}
use Rattle.std.specs.List.{range_with_len, sum_by}
use Rattle.std.proofs.lemmas.List.Sums.{sum_by-cons}
use Rattle.std.proofs.Math.Nat.{mul_assoc}
use Rattle.std.proofs.Math.Pow.{pow_mono}
use Rattle.std.proofs.Math.Seq.{drop-cons}
use Rattle.rate_table.specs.declared.Rate.{Rate}
use Rattle.rate_table.specs.Table.{row_of}
use Rattle.rate_table.proofs.ByRate.{by_rate}
use Rattle.signal_field.specs.Headers.{number_of_bits, rate_of_pattern}

-- a sum from the next number on, each of whose terms is twice the one before
sum_behind : (f g : ℕ → ℕ) → ((k : ℕ) → f (k + 1) ≡ 2 * g k) → (start count : ℕ) → sum_by f (range_with_len (start + 1) count) ≡ 2 * sum_by g (range_with_len start count)
sum_behind f g twice start zero = refl
sum_behind f g twice start (suc count) =
    sum_by-cons f (start + 1) (range_with_len (start + 1 + 1) count)
    ∙ omega (arith, twice start, sum_behind f g twice (start + 1) count, sum_by-cons g start (range_with_len (start + 1) count))

-- what a bit before others is worth
worth_more : (bit : ℕ) (bits : List ℕ) (k : ℕ) → 2 ^ (k + 1) * get_or (bit ∷ bits) (k + 1) 0 ≡ 2 * (2 ^ k * get_or bits k 0)
worth_more bit bits k =
    let power : 2 ^ suc k ≡ 2 * 2 ^ k = omega arith in
    rw (add-one, power) (mul_assoc 2 (2 ^ k) (get_or bits k 0))

-- one bit before others
pub number_of_next : (bit : ℕ) (bits : List ℕ) → number_of_bits (bit ∷ bits) ≡ bit + 2 * number_of_bits bits
unfolding number_of_bits
number_of_next bit bits =
    let f = λ (k : ℕ). 2 ^ k * get_or (bit ∷ bits) k 0 in
    let g = λ (k : ℕ). 2 ^ k * get_or bits k 0 in
    sum_by-cons f 0 (range_with_len (0 + 1) (length bits))
    ∙ omega (arith, sum_behind f g (worth_more bit bits) 0 (length bits))

-- the number of the bits from a place on
pub number_from : (bits : List ℕ) (place : ℕ) → place < length bits → number_of_bits (drop place bits) ≡ get_or bits place 0 + 2 * number_of_bits (drop (suc place) bits)
number_from bits place within = rw (drop-cons bits place 0 within) (number_of_next (get_or bits place 0) (drop (suc place) bits))

-- one bit more doubles the bound
pub below_more : (number bit more left : ℕ) → bit < 2 → number < 2 ^ more → left ≡ suc more → 2 * number + bit < 2 ^ left
below_more number bit more left is_bit below next = rw next (omega arith)

pub below_fits : (number left : ℕ) → left ≤ 15 → number < 2 ^ left → number < 2 ^ 15
below_fits number left few below = omega (arith, pow_mono {i = left} {j = 15} few)

-- the rate of a pattern
pub pattern_named : (rate : Rate) → rate_of_pattern (row_of rate).pattern ≡ Some rate
pattern_named = by_rate (λ rate. rate_of_pattern (row_of rate).pattern ≡ Some rate) refl refl refl refl refl refl refl refl

pub pattern_unnamed : (pattern : ℕ) → pattern < 8 → rate_of_pattern pattern ≡ None
pattern_unnamed zero h = refl
pattern_unnamed (suc zero) h = refl
pattern_unnamed (suc (suc zero)) h = refl
pattern_unnamed (suc (suc (suc zero))) h = refl
pattern_unnamed (suc (suc (suc (suc zero)))) h = refl
pattern_unnamed (suc (suc (suc (suc (suc zero))))) h = refl
pattern_unnamed (suc (suc (suc (suc (suc (suc zero)))))) h = refl
pattern_unnamed (suc (suc (suc (suc (suc (suc (suc zero))))))) h = refl
pattern_unnamed (suc (suc (suc (suc (suc (suc (suc (suc pattern)))))))) h = absurd (omega arith)
