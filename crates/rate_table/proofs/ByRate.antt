-- What holds of each of the eight rates.
use Rattle.std.proofs.Common.{◌≡◌, ℕ, ◌-◌, ◌*◌, ◌<◌, ◌≤◌, ◌^◌, ◌∷◌, [], slice_index_or, lit<, lit≤, refl, sym, ap, ◌∙◌, arith}
use Rattle.std.specs.Prelude.{◌==◌, if◌then◌else◌}
use Rattle.rate_table.specs.declared.Rate.{Rate}
use Rattle.rate_table.specs.declared.Rate.TheVariants.{R6, R9, R12, R18, R24, R36, R48, R54}
use Rattle.rate_table.specs.Table.{bits_of_modulation, flip_bound_of, rate_at, row_of}

-- a fact of each rate, by the eight
pub by_rate : (P : Rate → Type 0) → P R6 → P R9 → P R12 → P R18 → P R24 → P R36 → P R48 → P R54 → (rate : Rate) → P rate
by_rate P r6 r9 r12 r18 r24 r36 r48 r54 R6 = r6
by_rate P r6 r9 r12 r18 r24 r36 r48 r54 R9 = r9
by_rate P r6 r9 r12 r18 r24 r36 r48 r54 R12 = r12
by_rate P r6 r9 r12 r18 r24 r36 r48 r54 R18 = r18
by_rate P r6 r9 r12 r18 r24 r36 r48 r54 R24 = r24
by_rate P r6 r9 r12 r18 r24 r36 r48 r54 R36 = r36
by_rate P r6 r9 r12 r18 r24 r36 r48 r54 R48 = r48
by_rate P r6 r9 r12 r18 r24 r36 r48 r54 R54 = r54

-- each has an index
pub has_index : (rate : Rate) → (index : ℕ) × ((index < 8) × (rate_at index ≡ rate))
has_index =
    by_rate (λ rate. (index : ℕ) × ((index < 8) × (rate_at index ≡ rate)))
    (0, (lit< tt, refl)) (1, (lit< tt, refl)) (2, (lit< tt, refl)) (3, (lit< tt, refl))
    (4, (lit< tt, refl)) (5, (lit< tt, refl)) (6, (lit< tt, refl)) (7, (lit< tt, refl))

-- the rate of so many megabits a second, R6 where there is none
abbrev pub rate_of_mbps : ℕ → Rate
rate_of_mbps mbps =
    if mbps == 9 then R9
    else (if mbps == 12 then R12
    else (if mbps == 18 then R18
    else (if mbps == 24 then R24
    else (if mbps == 36 then R36
    else (if mbps == 48 then R48
    else (if mbps == 54 then R54
    else R6))))))

pub rate_of_mbps-of : (rate : Rate) → rate_of_mbps (row_of rate).mbps ≡ rate
rate_of_mbps-of = by_rate (λ rate. rate_of_mbps (row_of rate).mbps ≡ rate) refl refl refl refl refl refl refl refl

pub one_by_mbps : (rate other : Rate) → (row_of rate).mbps ≡ (row_of other).mbps → rate ≡ other
one_by_mbps rate other same = sym (rate_of_mbps-of rate) ∙ ap rate_of_mbps same ∙ rate_of_mbps-of other

-- the rate of a pattern's number, 8 to 15
abbrev pub rate_of_pattern : ℕ → Rate
rate_of_pattern pattern = slice_index_or (R48 ∷ R24 ∷ R12 ∷ R6 ∷ R54 ∷ R36 ∷ R18 ∷ R9 ∷ []) (pattern - 8) R6

pub rate_of_pattern-of : (rate : Rate) → rate_of_pattern (row_of rate).pattern ≡ rate
rate_of_pattern-of = by_rate (λ rate. rate_of_pattern (row_of rate).pattern ≡ rate) refl refl refl refl refl refl refl refl

pub one_by_pattern : (rate other : Rate) → (row_of rate).pattern ≡ (row_of other).pattern → rate ≡ other
one_by_pattern rate other same = sym (rate_of_pattern-of rate) ∙ ap rate_of_pattern same ∙ rate_of_pattern-of other

pub pattern_fits : (rate : Rate) → (row_of rate).pattern < 2 ^ 4
pattern_fits = by_rate (λ rate. (row_of rate).pattern < 2 ^ 4) (lit< tt) (lit< tt) (lit< tt) (lit< tt) (lit< tt) (lit< tt) (lit< tt) (lit< tt)

-- N_BPSC is that of the modulation
pub width_is : (rate : Rate) → (row_of rate).bits_per_carrier ≡ bits_of_modulation (row_of rate).modulation
width_is = by_rate (λ rate. (row_of rate).bits_per_carrier ≡ bits_of_modulation (row_of rate).modulation) refl refl refl refl refl refl refl refl

-- N_CBPS is 48 times N_BPSC of the modulation
pub coded_bits_by_modulation : (rate : Rate) → (row_of rate).coded_bits ≡ 48 * bits_of_modulation (row_of rate).modulation
coded_bits_by_modulation = by_rate (λ r. (row_of r).coded_bits ≡ 48 * bits_of_modulation (row_of r).modulation) refl refl refl refl refl refl refl refl

-- a symbol has at most 288 bits
pub coded_bits-le : (rate : Rate) → (row_of rate).coded_bits ≤ 288
coded_bits-le = by_rate (λ rate. (row_of rate).coded_bits ≤ 288) (omega arith) (omega arith) (omega arith) (omega arith) (omega arith) (omega arith) (omega arith) (omega arith)

-- the bound of noise is from 8 to 64
pub noise_bound_from : (rate : Rate) → (8 ≤ (row_of rate).noise_bound) × ((row_of rate).noise_bound ≤ 64)
noise_bound_from =
    by_rate (λ rate. (8 ≤ (row_of rate).noise_bound) × ((row_of rate).noise_bound ≤ 64))
    (lit≤ tt, lit≤ tt) (lit≤ tt, lit≤ tt) (lit≤ tt, lit≤ tt) (lit≤ tt, lit≤ tt) (lit≤ tt, lit≤ tt) (lit≤ tt, lit≤ tt) (lit≤ tt, lit≤ tt) (lit≤ tt, lit≤ tt)

-- the bound of flips is that of the code rate
pub flip_bound_by_code_rate : (rate : Rate) → (row_of rate).flip_bound ≡ flip_bound_of (row_of rate).code_rate
flip_bound_by_code_rate = by_rate (λ r. (row_of r).flip_bound ≡ flip_bound_of (row_of r).code_rate) refl refl refl refl refl refl refl refl
