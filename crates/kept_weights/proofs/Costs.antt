-- What a list costs against the pairs of marks of decisions.
use Rattle.std.proofs.Common.{◌≡◌, ℕ, zero, suc, ◌+◌, ◌*◌, ◌≤◌, ◌==◌, cond, not, List, length, map, slice_index, refl, ap, sym, ◌∙◌, arith}
use Rattle.std.specs.List.{sum_by, range_with_len, enumerate_from}
use Rattle.std.proofs.lemmas.List.Sums.{sum_by-cons}
use Rattle.bit_lists.specs.Bits.{IsBit, AreBits}
use Rattle.bit_lists.proofs.BitFacts.{IsBit-slice_index, on_two_bits}
use Rattle.rate_table.specs.declared.CodeRate.{CodeRate}
use Rattle.conv_code.specs.Code.{parity_a, parity_b}
use Rattle.conv_code.proofs.Coded.{IsBit-parity_a, IsBit-parity_b}
use Rattle.puncture_map.specs.Kept.{kept_count, kept_code, rank}
use Rattle.survivor_memory.specs.declared.PairCosts.{PairCosts}
use Rattle.survivor_memory.specs.Costs.{price, cost}
use Rattle.kept_weights.specs.Weights.{distance_over}
use Rattle.kept_weights.specs.Decisions.{decision_cost, mark_cost, costs_of_step, costs_of_steps, cost_of_decisions}
use Rattle.kept_weights.proofs.Sums.{sum_below, sum_by-range, sum_below-same, sum_below-le}
use Rattle.kept_weights.proofs.StepWeights.{at_kept, sum_over_steps}
use Rattle.kept_weights.proofs.Apart.{AreBits-kept_code, distance_over-by_places}

-- the sum over pairs that are made of their places
sum_by-places_of : (g : ℕ × PairCosts → ℕ) (f : ℕ → PairCosts) (a n : ℕ) → sum_by g (enumerate_from a (map f (range_with_len a n))) ≡ sum_by (λ i. g (i, f i)) (range_with_len a n)
sum_by-places_of g f a zero = refl
sum_by-places_of g f a (suc n) =
    sum_by-cons g (a, f a) (enumerate_from (a + 1) (map f (range_with_len (a + 1) n)))
    ∙ ap (λ s. g (a, f a) + s) (sum_by-places_of g f (a + 1) n)
    ∙ sym (sum_by-cons (λ i. g (i, f i)) a (range_with_len (a + 1) n))

-- a mark's cost for a bit, from its costs for both bits
by_bit : (cost_for : ℕ → ℕ) (bit : ℕ) → IsBit bit → cond (bit == 0) (cost_for 0) (cost_for 1) ≡ cost_for bit
by_bit cost_for zero h = refl
by_bit cost_for (suc zero) h = refl
by_bit cost_for (suc (suc bit)) h = absurd (omega arith)

-- the price of a pair is what its two marks cost
price_of_pair : (rate : CodeRate) (full : ℕ) (decisions : List ℕ) (i a b : ℕ) → IsBit a → IsBit b → price (costs_of_step rate full decisions i) a b ≡ mark_cost rate full decisions (2 * i) a + mark_cost rate full decisions (2 * i + 1) b
unfolding price costs_of_step
price_of_pair rate full decisions i a b p q =
    let first = by_bit (mark_cost rate full decisions (2 * i)) a p in
    let second = by_bit (mark_cost rate full decisions (2 * i + 1)) b q in
    cc

-- the cost by steps
cost-by_steps : (rate : CodeRate) (full n : ℕ) (decisions u : List ℕ) → cost (costs_of_steps rate full decisions n) u ≡ sum_below (λ i. mark_cost rate full decisions (2 * i) (parity_a u i) + mark_cost rate full decisions (2 * i + 1) (parity_b u i)) n
unfolding cost
cost-by_steps rate full n decisions u =
    sum_by-places_of (λ (place, pair). price pair (parity_a u place) (parity_b u place)) (costs_of_step rate full decisions) 0 n
    ∙ sum_by-range (λ i. price (costs_of_step rate full decisions i) (parity_a u i) (parity_b u i)) n
    ∙ sum_below-same _ _ n (λ i within. price_of_pair rate full decisions i (parity_a u i) (parity_b u i) (IsBit-parity_a u i) (IsBit-parity_b u i))

-- the cost over decisions, by places
pub cost_of_decisions-by_places : (full : ℕ) (decisions : List ℕ) (n : ℕ) (bits : List ℕ) → cost_of_decisions full decisions n bits ≡ sum_below (λ k. decision_cost full (slice_index decisions k) (slice_index bits k)) n
unfolding cost_of_decisions
cost_of_decisions-by_places full decisions n bits = sum_by-range (λ k. decision_cost full (slice_index decisions k) (slice_index bits k)) n

-- the cost is the sum over the kept code
pub cost-over_kept_code : (rate : CodeRate) (full n : ℕ) (decisions u : List ℕ) → length u ≡ n → cost (costs_of_steps rate full decisions n) u ≡ cost_of_decisions full decisions (kept_count rate n) (kept_code rate u)
cost-over_kept_code rate full n decisions u long =
    let g = λ (k bit : ℕ). decision_cost full (slice_index decisions k) bit in
    cost-by_steps rate full n decisions u
    ∙ ap (sum_below (λ i. at_kept rate (λ place. g (rank rate place) (parity_a u i)) (2 * i) + at_kept rate (λ place. g (rank rate place) (parity_b u i)) (2 * i + 1))) (sym long)
    ∙ sym (sum_over_steps rate g u)
    ∙ ap (λ m. sum_below (λ k. g k (slice_index (kept_code rate u) k)) (kept_count rate m)) long
    ∙ sym (cost_of_decisions-by_places full decisions (kept_count rate n) (kept_code rate u))

-- a hard decision costs 1 for the other bit
hard_cost : (v b : ℕ) → IsBit v → IsBit b → decision_cost 1 v b ≡ cond (not (b == v)) 1 0
hard_cost = on_two_bits (λ v b. decision_cost 1 v b ≡ cond (not (b == v)) 1 0) refl refl refl refl

-- against hard decisions it is the distance
pub cost-hard : (rate : CodeRate) (n : ℕ) (decisions u : List ℕ) → length u ≡ n → AreBits decisions → cost (costs_of_steps rate 1 decisions n) u ≡ distance_over (kept_count rate n) (kept_code rate u) decisions
cost-hard rate n decisions u long bits =
    cost-over_kept_code rate 1 n decisions u long
    ∙ cost_of_decisions-by_places 1 decisions (kept_count rate n) (kept_code rate u)
    ∙ sum_below-same _ _ (kept_count rate n) (λ k within. hard_cost (slice_index decisions k) (slice_index (kept_code rate u) k) (IsBit-slice_index decisions k bits) (IsBit-slice_index (kept_code rate u) k (AreBits-kept_code rate u)))
    ∙ sym (distance_over-by_places (kept_count rate n) (kept_code rate u) decisions)

-- where two bits differ, their costs against a decision are together at least the full one
two_costs : (full v a b : ℕ) → IsBit a → IsBit b → full * cond (not (a == b)) 1 0 ≤ decision_cost full v a + decision_cost full v b
two_costs full v =
    on_two_bits (λ a b. full * cond (not (a == b)) 1 0 ≤ decision_cost full v a + decision_cost full v b) (omega arith) (omega arith) (omega arith) (omega arith)

-- so the costs of two lists of bits are together at least so many times their distance
pub costs_by_distance : (full n : ℕ) (decisions a b : List ℕ) → AreBits a → AreBits b → full * distance_over n a b ≤ cost_of_decisions full decisions n a + cost_of_decisions full decisions n b
costs_by_distance full n decisions a b bits_a bits_b =
    rw (distance_over-by_places n a b, cost_of_decisions-by_places full decisions n a, cost_of_decisions-by_places full decisions n b)
    (sum_below-le full _ _ _ n (λ k within. two_costs full (slice_index decisions k) (slice_index a k) (slice_index b k) (IsBit-slice_index a k bits_a) (IsBit-slice_index b k bits_b)))
