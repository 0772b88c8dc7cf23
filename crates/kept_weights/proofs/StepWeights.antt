-- The kept weight of a list, step by step.
use Rattle.std.proofs.Common.{◌≡◌, ℕ, zero, suc, ◌+◌, ◌*◌, ◌%◌, ◌==◌, Bool, true, false, cond, List, length, slice_index, refl, ap, sym, ◌∙◌, arith}
use Rattle.std.proofs.lemmas.List.{length-map}
use Rattle.bit_lists.specs.Bits.{IsBit, AreBits}
use Rattle.rate_table.specs.declared.CodeRate.{CodeRate}
use Rattle.rate_table.specs.declared.CodeRate.TheVariants.{Half, TwoThirds, ThreeQuarters}
use Rattle.conv_code.specs.Code.{parity_a, parity_b, code_of}
use Rattle.conv_code.specs.States.{state_before}
use Rattle.conv_code.proofs.Coded.{Codes-code_of, IsBit-parity_a, IsBit-parity_b}
use Rattle.conv_code.proofs.Inputs.{branch_a_along, branch_b_along}
use Rattle.puncture_map.specs.Kept.{is_kept, kept_places, kept_count, period_of, kept_code, rank}
use Rattle.puncture_map.proofs.Ranks.{rank-more}
use Rattle.puncture_map.proofs.KeptBits.{kept_list-rank}
use Rattle.kept_weights.specs.Weights.{kept_weight}
use Rattle.kept_weights.specs.Potentials.{branch_weight}
use Rattle.kept_weights.proofs.Sums.{cond_same, sum_below, sum_by-places, sum_below-same, sum_below-pairs}

-- the kept code has as many bits as places are kept
pub length-kept_code : (rate : CodeRate) (u : List ℕ) → length (kept_code rate u) ≡ kept_count rate (length u)
length-kept_code rate u =
    length-map (kept_places rate (length (code_of u))) (slice_index (code_of u))
    ∙ ap (rank rate) (Codes-code_of u).twice

-- what a function of ranks gives at a kept place, and else nothing
abbrev pub at_kept : CodeRate → (ℕ → ℕ) → ℕ → ℕ
at_kept rate f place = cond (is_kept rate place) (f place) 0

-- the sum over the kept places below a number, by their ranks
pub sum_of_kept : (rate : CodeRate) (f : ℕ → ℕ) (n : ℕ) → sum_below (λ place. cond (is_kept rate place) (f (rank rate place)) 0) n ≡ sum_below f (rank rate n)
sum_of_kept rate f zero = refl
sum_of_kept rate f (suc n) =
    let before = sum_of_kept rate f n in
    let one_more : suc n ≡ n + 1 = omega arith in
    ap (λ s. s + cond (is_kept rate n) (f (rank rate n)) 0) before
    ∙ one_place (is_kept rate n) (rank rate n)
    ∙ ap (sum_below f) (sym (ap (rank rate) one_more ∙ rank-more rate n))
  where
    one_place : (b : Bool) (r : ℕ) → sum_below f r + cond b (f r) 0 ≡ sum_below f (r + cond b 1 0)
    one_place true r = let one_on : r + 1 ≡ suc r = omega arith in rw one_on
    one_place false r = let same : r + 0 ≡ r = omega arith in rw same (omega arith)

-- a sum over the bits of a kept code, and one over the kept places of the code
pub sum_over_code : (rate : CodeRate) (g : ℕ → ℕ → ℕ) (u : List ℕ) → sum_below (λ k. g k (slice_index (kept_code rate u) k)) (kept_count rate (length u)) ≡ sum_below (at_kept rate (λ place. g (rank rate place) (slice_index (code_of u) place))) (2 * length u)
sum_over_code rate g u =
    let twice : length (code_of u) ≡ 2 * length u = (Codes-code_of u).twice in
    sym (sum_of_kept rate (λ k. g k (slice_index (kept_code rate u) k)) (2 * length u))
    ∙ sum_below-same
    (λ place. cond (is_kept rate place) (g (rank rate place) (slice_index (kept_code rate u) (rank rate place))) 0)
    (at_kept rate (λ place. g (rank rate place) (slice_index (code_of u) place)))
    (2 * length u)
    (λ place below. cond_same (is_kept rate place) _ _ (λ kept. ap (g (rank rate place)) (kept_list-rank rate (code_of u) place (omega arith) kept)))

-- and one over the steps
pub sum_over_steps : (rate : CodeRate) (g : ℕ → ℕ → ℕ) (u : List ℕ) → sum_below (λ k. g k (slice_index (kept_code rate u) k)) (kept_count rate (length u)) ≡ sum_below (λ i. at_kept rate (λ place. g (rank rate place) (parity_a u i)) (2 * i) + at_kept rate (λ place. g (rank rate place) (parity_b u i)) (2 * i + 1)) (length u)
sum_over_steps rate g u =
    let codes = Codes-code_of u in
    let f = at_kept rate (λ place. g (rank rate place) (slice_index (code_of u) place)) in
    sum_over_code rate g u
    ∙ sum_below-pairs f (length u)
    ∙ sum_below-same (λ i. f (2 * i) + f (2 * i + 1)) (λ i. at_kept rate (λ place. g (rank rate place) (parity_a u i)) (2 * i) + at_kept rate (λ place. g (rank rate place) (parity_b u i)) (2 * i + 1)) (length u)
    (λ i below. rw (codes.a i below, codes.b i below))

-- the kept weight of a step
abbrev pub step_weight : CodeRate → List ℕ → ℕ → ℕ
step_weight rate u i = cond (is_kept rate (2 * i)) (parity_a u i) 0 + cond (is_kept rate (2 * i + 1)) (parity_b u i) 0

-- a bit counts itself
one_if : (a : ℕ) → IsBit a → cond (a == 1) 1 0 ≡ a
one_if zero h = refl
one_if (suc zero) h = refl
one_if (suc (suc a)) h = absurd (omega arith)

-- the kept weight is the sum of those of the steps
pub kept_weight-by_steps : (rate : CodeRate) (u : List ℕ) → kept_weight rate u ≡ sum_below (step_weight rate u) (length u)
kept_weight-by_steps rate u =
    let g = λ (k bit : ℕ). cond (bit == 1) 1 0 in
    sum_by-places (λ bit. cond (bit == 1) 1 0) (kept_code rate u)
    ∙ ap (sum_below (λ k. cond (slice_index (kept_code rate u) k == 1) 1 0)) (length-kept_code rate u)
    ∙ sum_over_steps rate g u
    ∙ sum_below-same _ (step_weight rate u) (length u) (λ i below. rw (one_if (parity_a u i) (IsBit-parity_a u i), one_if (parity_b u i) (IsBit-parity_b u i)))

-- the phase decides what is kept
pub kept_by_phase : (rate : CodeRate) (i : ℕ) → (is_kept rate (2 * (i % period_of rate)) ≡ is_kept rate (2 * i)) × (is_kept rate (2 * (i % period_of rate) + 1) ≡ is_kept rate (2 * i + 1))
kept_by_phase Half i = (refl, refl)
kept_by_phase TwoThirds i =
    let a : 2 * (i % 2) % 4 ≡ 2 * i % 4 = omega arith in
    let b : (2 * (i % 2) + 1) % 4 ≡ (2 * i + 1) % 4 = omega arith in
    (rw a, rw b)
kept_by_phase ThreeQuarters i =
    let a : 2 * (i % 3) % 6 ≡ 2 * i % 6 = omega arith in
    let b : (2 * (i % 3) + 1) % 6 ≡ (2 * i + 1) % 6 = omega arith in
    (rw a, rw b)

-- along a list, a branch's kept weight is the step's
pub branch_weight_along : (rate : CodeRate) (u : List ℕ) (i : ℕ) → AreBits u → branch_weight rate (i % period_of rate) (state_before u i) (slice_index u i) ≡ step_weight rate u i
branch_weight_along rate u i bits =
    let kept = kept_by_phase rate i in
    rw (branch_a_along u i bits, branch_b_along u i bits, kept.0, kept.1)
