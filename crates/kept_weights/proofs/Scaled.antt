-- Decisions that are 0 or full cost so many times what the hard decisions 0 and 1 cost.
use Rattle.std.proofs.Common.{◌≡◌, ℕ, zero, suc, ◌*◌, ◌<◌, ◌≤◌, List, length, map, slice_index, mul-le-mul_left, ap, sym, ◌∙◌, arith}
use Rattle.std.proofs.Math.Nat.{le_of_mul-le-mul_left}
use Rattle.std.proofs.Math.ListN.{get_or-map}
use Rattle.bit_lists.specs.Bits.{IsBit, AreBits}
use Rattle.bit_lists.proofs.BitFacts.{IsBit-slice_index, on_two_bits}
use Rattle.rate_table.specs.declared.CodeRate.{CodeRate}
use Rattle.puncture_map.specs.Kept.{kept_count, kept_code}
use Rattle.survivor_memory.specs.Costs.{cost}
use Rattle.survivor_memory.specs.Nearest.{IsClosed, IsNearest}
use Rattle.kept_weights.specs.Decisions.{decision_cost, costs_of_steps, cost_of_decisions}
use Rattle.kept_weights.proofs.Sums.{sum_below, sum_below-same}
use Rattle.kept_weights.proofs.Apart.{AreBits-kept_code}
use Rattle.kept_weights.proofs.Costs.{cost-over_kept_code, cost_of_decisions-by_places}
use Rattle.kept_weights.proofs.Nearest.{length-costs_of_steps}

-- each decision so many times
abbrev pub scaled : ℕ → List ℕ → List ℕ
scaled full decisions = map (λ decision. full * decision) decisions

-- place by place
scaled_at : (full : ℕ) (decisions : List ℕ) (k : ℕ) → slice_index (scaled full decisions) k ≡ full * slice_index decisions k
scaled_at full decisions k =
    let none : full * 0 ≡ 0 = omega arith in
    rw none at (get_or-map (λ decision. full * decision) decisions k 0)

-- what such a decision costs
scaled_cost : (full v b : ℕ) → IsBit v → IsBit b → decision_cost full (full * v) b ≡ full * decision_cost 1 v b
scaled_cost full =
    on_two_bits (λ v b. decision_cost full (full * v) b ≡ full * decision_cost 1 v b) (omega arith) (omega arith) (omega arith) (omega arith)

-- a sum of multiples
sum_below-times : (times : ℕ) (f : ℕ → ℕ) (n : ℕ) → sum_below (λ k. times * f k) n ≡ times * sum_below f n
sum_below-times times f zero = omega arith
sum_below-times times f (suc n) = let before = sum_below-times times f n in omega arith

-- so many times the cost over hard decisions
cost_of_scaled : (full n : ℕ) (decisions bits : List ℕ) → AreBits decisions → AreBits bits → cost_of_decisions full (scaled full decisions) n bits ≡ full * cost_of_decisions 1 decisions n bits
cost_of_scaled full n decisions bits p q =
    let hard = λ (k : ℕ). decision_cost 1 (slice_index decisions k) (slice_index bits k) in
    cost_of_decisions-by_places full (scaled full decisions) n bits
    ∙ sum_below-same _ (λ k. full * hard k) n (λ k within. ap (λ v. decision_cost full v (slice_index bits k)) (scaled_at full decisions k) ∙ scaled_cost full (slice_index decisions k) (slice_index bits k) (IsBit-slice_index decisions k p) (IsBit-slice_index bits k q))
    ∙ sum_below-times full hard n
    ∙ ap (λ s. full * s) (sym (cost_of_decisions-by_places 1 decisions n bits))

-- the cost of a list against them
pub cost-scaled : (rate : CodeRate) (full n : ℕ) (decisions u : List ℕ) → AreBits decisions → length u ≡ n → cost (costs_of_steps rate full (scaled full decisions) n) u ≡ full * cost (costs_of_steps rate 1 decisions n) u
cost-scaled rate full n decisions u bits long =
    cost-over_kept_code rate full n (scaled full decisions) u long
    ∙ cost_of_scaled full (kept_count rate n) decisions (kept_code rate u) bits (AreBits-kept_code rate u)
    ∙ ap (λ s. full * s) (sym (cost-over_kept_code rate 1 n decisions u long))

-- a factor that is not 0 falls away
times_same : (full a b : ℕ) → 0 < full → full * a ≡ full * b → a ≡ b
times_same full a b some same =
    let up : a ≤ b = le_of_mul-le-mul_left (omega arith) some in
    let down : b ≤ a = le_of_mul-le-mul_left (omega arith) some in
    omega arith

-- so the nearest list is the same
pub nearest-scaled : (rate : CodeRate) (full n least : ℕ) (decisions u : List ℕ) → AreBits decisions → 0 < full → IsNearest (costs_of_steps rate 1 decisions n) u least → IsNearest (costs_of_steps rate full (scaled full decisions) n) u (full * least)
nearest-scaled rate full n least decisions u bits some nearest =
    let count : length (costs_of_steps rate full (scaled full decisions) n) ≡ n = length-costs_of_steps rate full n (scaled full decisions) in
    let count_hard : length (costs_of_steps rate 1 decisions n) ≡ n = length-costs_of_steps rate 1 n decisions in
    let as_hard : (v : List ℕ) → IsClosed (length (costs_of_steps rate full (scaled full decisions) n)) v → IsClosed (length (costs_of_steps rate 1 decisions n)) v =
    λ v closed. (let there = rw count at closed in rw count_hard there) in
    let times : (v : List ℕ) → IsClosed (length (costs_of_steps rate 1 decisions n)) v → cost (costs_of_steps rate full (scaled full decisions) n) v ≡ full * cost (costs_of_steps rate 1 decisions n) v =
    λ v closed. cost-scaled rate full n decisions v bits (closed.long ∙ count_hard) in
    record {
      of_kind = (let there = rw count_hard at nearest.of_kind in rw count there);
      costs = times u nearest.of_kind ∙ ap (λ s. full * s) nearest.costs;
      none_less = λ v closed. (let hard = as_hard v closed in rw (times v hard) (mul-le-mul_left full (nearest.none_less v hard)));
      comes_first = λ v closed costs. (let hard = as_hard v closed in nearest.comes_first v hard (times_same full _ _ some (sym (times v hard) ∙ costs)));
    }
