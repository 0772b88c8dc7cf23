-- The tables are potentials: each condition is computed for all branches of all phases.
use Rattle.std.proofs.Common.{◌≡◌, ℕ, ◌+◌, ◌*◌, ◌/◌, ◌%◌, ◌<◌, Bool, true, leb, refl, arith}
use Rattle.std.proofs.lemmas.Bool.{agree_below, agree_below_at, leb-true}
use Rattle.rate_table.specs.declared.CodeRate.{CodeRate}
use Rattle.rate_table.specs.declared.CodeRate.TheVariants.{Half, TwoThirds, ThreeQuarters}
use Rattle.bit_lists.specs.Bits.{IsBit}
use Rattle.conv_code.specs.Code.{earlier, parity_a, parity_b}
use Rattle.conv_code.specs.States.{state_after}
use Rattle.puncture_map.specs.Kept.{period_of}
use Rattle.kept_weights.specs.Weights.{least_weight}
use Rattle.kept_weights.specs.Potentials.{branch_weight, next_phase, IsPotential, potential_of}

-- the test of the branch from a state with a bit in a phase
abbrev branch_test : CodeRate → ℕ → ℕ → ℕ → Bool
branch_test rate phase state bit = leb (potential_of rate phase state) (potential_of rate (next_phase rate phase) (state_after state bit) + branch_weight rate phase state bit)

-- all branches of all phases, numbered
abbrev test_of : CodeRate → ℕ → Bool
test_of rate k = branch_test rate (k / 128) (k % 128 / 2) (k % 2)

-- they all hold
all_tests : (rate : CodeRate) → agree_below (test_of rate) (λ _. true) (128 * period_of rate) ≡ true
unfolding potential_of parity_a parity_b earlier
all_tests Half = refl
all_tests TwoThirds = refl
all_tests ThreeQuarters = refl

-- so the test of a branch holds
branch_holds : (rate : CodeRate) (phase state bit : ℕ) → phase < period_of rate → state < 64 → IsBit bit → branch_test rate phase state bit ≡ true
branch_holds rate phase state bit p q r =
    let k : ℕ = 128 * phase + (2 * state + bit) in
    let its_phase : k / 128 ≡ phase = omega arith in
    let its_state : k % 128 / 2 ≡ state = omega arith in
    let its_bit : k % 2 ≡ bit = omega arith in
    let test = agree_below_at (test_of rate) (λ _. true) (128 * period_of rate) k (all_tests rate) (omega arith) in
    rw (its_phase, its_state, its_bit) at test

-- the condition on the first 1, in each phase
first_holds : (rate : CodeRate) → agree_below (λ phase. leb (least_weight rate) (branch_weight rate phase 0 1 + potential_of rate (next_phase rate phase) 1)) (λ _. true) (period_of rate) ≡ true
unfolding potential_of parity_a parity_b earlier
first_holds Half = refl
first_holds TwoThirds = refl
first_holds ThreeQuarters = refl

-- the number of state 0, in each phase
zero_holds : (rate : CodeRate) → agree_below (λ phase. leb (potential_of rate phase 0) 0) (λ _. true) (period_of rate) ≡ true
unfolding potential_of
zero_holds Half = refl
zero_holds TwoThirds = refl
zero_holds ThreeQuarters = refl

-- so each table is a potential
pub each_is_potential : (rate : CodeRate) → IsPotential rate (potential_of rate)
each_is_potential rate = record {
  state_zero = λ phase p. (let low = leb-true _ _ (agree_below_at (λ phase. leb (potential_of rate phase 0) 0) (λ _. true) (period_of rate) phase (zero_holds rate) p) in omega (arith, low));
  branches = λ phase state bit p q r. leb-true _ _ (branch_holds rate phase state bit p q r);
  first_one = λ phase p. leb-true _ _ (agree_below_at (λ phase. leb (least_weight rate) (branch_weight rate phase 0 1 + potential_of rate (next_phase rate phase) 1)) (λ _. true) (period_of rate) phase (first_holds rate) p);
}
