-- How many places are kept: one for each step, and one more for each period that is begun.
use Rattle.std.proofs.Common.{◌≡◌, ℕ, ◌+◌, ◌*◌, zero, suc, cond, length, refl, sym, ap, ◌∙◌, arith}
use Rattle.std.specs.Int.{div_ceil}
use Rattle.std.proofs.lemmas.Bool.Decides.{nat_tests}
use Rattle.rate_table.specs.declared.CodeRate.{CodeRate}
use Rattle.rate_table.specs.declared.CodeRate.TheVariants.{Half, TwoThirds, ThreeQuarters}
use Rattle.rate_table.specs.declared.Rate.{Rate}
use Rattle.rate_table.specs.Table.{row_of}
use Rattle.rate_table.proofs.ByRate.{by_rate}
use Rattle.puncture_map.specs.Kept.{is_kept, kept_places, kept_count, period_of, count_by_periods}
use Rattle.puncture_map.proofs.Ranks.{rank-more}

-- how many places of a step are kept
abbrev pub kept_of_step : CodeRate → ℕ → ℕ
kept_of_step rate n = cond (is_kept rate (2 * n)) 1 0 + cond (is_kept rate (2 * n + 1)) 1 0

-- one step more
pub kept_count-more : (rate : CodeRate) (n : ℕ) → kept_count rate (n + 1) ≡ kept_count rate n + kept_of_step rate n
kept_count-more rate n =
    let first = rank-more rate (2 * n) in
    let second = rank-more rate (2 * n + 1) in
    let places : 2 * (n + 1) ≡ (2 * n + 1) + 1 = omega arith in
    ap (λ m. length (kept_places rate m)) places ∙ omega (arith, first, second)

-- the same step in the count by periods
pub count_by_periods-more : (rate : CodeRate) (n : ℕ) → count_by_periods rate (n + 1) ≡ count_by_periods rate n + kept_of_step rate n
count_by_periods-more Half n = omega arith
count_by_periods-more TwoThirds n = grind (arith, nat_tests)
count_by_periods-more ThreeQuarters n = grind (arith, nat_tests)

pub kept_count-by_periods : (rate : CodeRate) (n : ℕ) → kept_count rate n ≡ count_by_periods rate n
kept_count-by_periods rate zero = elim rate as (λ r. kept_count r zero ≡ count_by_periods r zero) [ Half ↦ refl | TwoThirds ↦ refl | ThreeQuarters ↦ refl ]
kept_count-by_periods rate (suc n) =
    let before = kept_count-by_periods rate n in
    let one_more : suc n ≡ n + 1 = omega arith in
    ap (kept_count rate) one_more ∙ omega (arith, kept_count-more rate n, count_by_periods-more rate n, before) ∙ sym (ap (count_by_periods rate) one_more)

-- the field of whole symbols leaves N_CBPS kept bits for each
pub count_by_periods-symbols : (r : Rate) (symbols : ℕ) → count_by_periods (row_of r).code_rate (symbols * (row_of r).field_bits) ≡ symbols * (row_of r).coded_bits
count_by_periods-symbols =
    by_rate (λ r. (symbols : ℕ) → count_by_periods (row_of r).code_rate (symbols * (row_of r).field_bits) ≡ symbols * (row_of r).coded_bits)
    (λ n. omega arith) (λ n. omega arith) (λ n. omega arith) (λ n. omega arith) (λ n. omega arith) (λ n. omega arith) (λ n. omega arith) (λ n. omega arith)

-- a quotient rounded up is its ceiling
pub div_ceil-period : (rate : CodeRate) (n : ℕ) → n + div_ceil n (period_of rate) ≡ count_by_periods rate n
div_ceil-period Half n = omega arith
div_ceil-period TwoThirds n = omega arith
div_ceil-period ThreeQuarters n = omega arith

pub kept_count-symbols : (r : Rate) (rate : CodeRate) (symbols : ℕ) → (row_of r).code_rate ≡ rate → kept_count rate (symbols * (row_of r).field_bits) ≡ symbols * (row_of r).coded_bits
kept_count-symbols r rate symbols same =
    kept_count-by_periods rate (symbols * (row_of r).field_bits)
    ∙ ap (λ code_rate. count_by_periods code_rate (symbols * (row_of r).field_bits)) (sym same)
    ∙ count_by_periods-symbols r symbols
