-- That a list that ends in six zeros and has a 1 has at least the least kept weight.
use Rattle.std.proofs.Common.{◌≡◌, ℕ, zero, suc, ◌+◌, ◌-◌, ◌%◌, ◌<◌, ◌≤◌, ◌⊎◌, inl, inr, List, slice_index, refl, ap, ◌∙◌, arith}
use Rattle.std.proofs.lemmas.Bool.{cases_lt, cases_eq}
use Rattle.std.proofs.lemmas.List.{get_or_past}
use Rattle.bit_lists.specs.Bits.{IsBit, AreBits}
use Rattle.bit_lists.proofs.BitFacts.{IsBit-slice_index}
use Rattle.rate_table.specs.declared.CodeRate.{CodeRate}
use Rattle.rate_table.specs.declared.CodeRate.TheVariants.{Half, TwoThirds, ThreeQuarters}
use Rattle.conv_code.specs.Code.{earlier}
use Rattle.conv_code.specs.States.{state_before}
use Rattle.conv_code.proofs.Inputs.{earlier_before, earlier_inside, state_before-lt, state_before-more}
use Rattle.puncture_map.specs.Kept.{period_of}
use Rattle.puncture_map.proofs.Periods.{walked}
use Rattle.survivor_memory.specs.Nearest.{IsClosed}
use Rattle.kept_weights.specs.Weights.{kept_weight, least_weight}
use Rattle.kept_weights.specs.Potentials.{next_phase, potential_of}
use Rattle.kept_weights.proofs.Potential.{each_is_potential}
use Rattle.kept_weights.proofs.Sums.{sum_below}
use Rattle.kept_weights.proofs.StepWeights.{step_weight, kept_weight-by_steps, branch_weight_along}

-- a list is 0 at the places below a number
abbrev pub ZeroBelow : ℕ → List ℕ → Type 0
ZeroBelow n u = (place : ℕ) → place < n → slice_index u place ≡ 0

-- a place where the six inputs before it are 0, has the state 0
pub state_zero : (u : List ℕ) (n : ℕ) → ((place : ℕ) → place < n → n ≤ place + 6 → slice_index u place ≡ 0) → state_before u n ≡ 0
unfolding state_before
state_zero u n zeros =
    let at : (steps : ℕ) → 1 ≤ steps → steps ≤ 6 → earlier u n steps ≡ 0 =
    λ steps some few. elim (cases_lt n steps) [
      | inl before ↦ earlier_before u n steps before
      | inr inside ↦ earlier_inside u n steps inside ∙ zeros (n - steps) (omega arith) (omega arith)
    ] in
    rw (at 1 (omega arith) (omega arith), at 2 (omega arith) (omega arith), at 3 (omega arith) (omega arith), at 4 (omega arith) (omega arith), at 5 (omega arith) (omega arith), at 6 (omega arith) (omega arith))

-- the phase of the next place is the next phase
phase_more : (rate : CodeRate) (i : ℕ) → next_phase rate (i % period_of rate) ≡ suc i % period_of rate
phase_more Half i = omega arith
phase_more TwoThirds i = omega arith
phase_more ThreeQuarters i = omega arith

-- the weight of the first so many steps and the number that they lead to are together at least the least kept weight
abbrev IsHeavy : CodeRate → List ℕ → ℕ → Type 0
IsHeavy rate u n = least_weight rate ≤ sum_below (step_weight rate u) n + potential_of rate (n % period_of rate) (state_before u n)

-- a step keeps it
heavy_more : (rate : CodeRate) (u : List ℕ) (n : ℕ) → AreBits u → IsBit (slice_index u n) → IsHeavy rate u n → IsHeavy rate u (suc n)
heavy_more rate u n bits bit heavy =
    let next : suc n ≡ n + 1 = omega arith in
    let along = branch_weight_along rate u n bits in
    let falls = (each_is_potential rate).branches (n % period_of rate) (state_before u n) (slice_index u n) (walked rate n 0 0).rest (state_before-lt u n bits) bit in
    let falls_there = rw (along, phase_more rate n, state_before-more u n bits, ← next) at falls in
    omega arith

-- the first 1 makes it hold
heavy_first : (rate : CodeRate) (u : List ℕ) (n : ℕ) → AreBits u → slice_index u n ≡ 1 → state_before u n ≡ 0 → IsHeavy rate u (suc n)
heavy_first rate u n bits one start =
    let next : suc n ≡ n + 1 = omega arith in
    let along = rw (start, one) at (branch_weight_along rate u n bits) in
    let after : 1 ≡ state_before u (suc n) = rw (start, one, ← next) at (state_before-more u n bits) in
    let first = (each_is_potential rate).first_one (n % period_of rate) (walked rate n 0 0).rest in
    let first_there = rw (along, phase_more rate n) at first in
    let there : potential_of rate (suc n % period_of rate) 1 ≡ potential_of rate (suc n % period_of rate) (state_before u (suc n)) = ap (potential_of rate (suc n % period_of rate)) after in
    omega arith

-- one place more
zero_more : (u : List ℕ) (n : ℕ) → ZeroBelow n u → slice_index u n ≡ 0 → ZeroBelow (suc n) u
zero_more u n zeros here place below =
    elim (cases_lt place n) [
      | inl before ↦ zeros place before
      | inr not_before ↦ let same : place ≡ n = omega arith in rw same here
    ]

-- after any number of steps the list is 0 so far, or it holds
zero_or_heavy : (rate : CodeRate) (u : List ℕ) (n : ℕ) → AreBits u → ZeroBelow n u ⊎ IsHeavy rate u n
zero_or_heavy rate u zero bits = inl (λ place below. absurd (omega arith))
zero_or_heavy rate u (suc n) bits =
    elim (zero_or_heavy rate u n bits) [
      | inl zeros ↦ elim (cases_eq (slice_index u n) 0) [
        | inl here ↦ inl (zero_more u n zeros here)
        | inr other ↦
            let bit = IsBit-slice_index u n bits in
            let one : slice_index u n ≡ 1 = one_of (slice_index u n) bit other in
            inr (heavy_first rate u n bits one (state_zero u n (λ place below _. zeros place below)))
      ]
      | inr heavy ↦ inr (heavy_more rate u n bits (IsBit-slice_index u n bits) heavy)
    ]
  where
    one_of : (a : ℕ) → IsBit a → (a ≡ 0 → ⊥) → a ≡ 1
    one_of zero h other = absurd (other refl)
    one_of (suc zero) h other = refl
    one_of (suc (suc a)) h other = absurd (omega arith)

-- a list that ends in six zeros is 0 everywhere, or it has at least the least kept weight
pub closed_is_heavy : (rate : CodeRate) (n : ℕ) (u : List ℕ) → IsClosed n u → ZeroBelow n u ⊎ (least_weight rate ≤ kept_weight rate u)
closed_is_heavy rate n u closed =
    elim (zero_or_heavy rate u n closed.bits) [
      | inl zeros ↦ inl zeros
      | inr heavy ↦
          let ends : state_before u n ≡ 0 = state_zero u n closed.tail in
          let none = (each_is_potential rate).state_zero (n % period_of rate) (walked rate n 0 0).rest in
          let at_the_end = rw (ends, none) at heavy in
          let weight : kept_weight rate u ≡ sum_below (step_weight rate u) n = kept_weight-by_steps rate u ∙ ap (sum_below (step_weight rate u)) closed.long in
          inr (omega arith)
    ]

-- so one with a 1 has
pub heavy_with_one : (rate : CodeRate) (n : ℕ) (u : List ℕ) → IsClosed n u → (place : ℕ) → slice_index u place ≡ 1 → least_weight rate ≤ kept_weight rate u
heavy_with_one rate n u closed place one =
    elim (closed_is_heavy rate n u closed) [
      | inl zeros ↦ elim (cases_lt place n) [
        | inl within ↦ (let zero_there = zeros place within in absurd (omega arith))
        | inr past ↦ (let zero_there = get_or_past u place 0 (omega (arith, closed.long)) in absurd (omega arith))
      ]
      | inr heavy ↦ heavy
    ]
