-- That a list of small cost is the nearest list.
use Rattle.std.proofs.Common.{◌≡◌, ℕ, ◌+◌, ◌*◌, ◌<◌, ◌≤◌, ◌⊎◌, inl, inr, List, length, mul-le-mul_left, ap, sym, ◌∙◌, arith}
use Rattle.std.proofs.lemmas.List.FromFn.{length-map-range_with_len}
use Rattle.bit_lists.specs.Bits.{AreBits}
use Rattle.rate_table.specs.declared.CodeRate.{CodeRate}
use Rattle.rate_table.specs.Table.{flip_bound_of}
use Rattle.rate_table.specs.declared.CodeRate.TheVariants.{Half, TwoThirds, ThreeQuarters}
use Rattle.puncture_map.specs.Kept.{kept_count, kept_code}
use Rattle.survivor_memory.specs.Costs.{cost}
use Rattle.survivor_memory.specs.Nearest.{IsClosed, IsNearest}
use Rattle.kept_weights.specs.Weights.{distance_over, least_weight}
use Rattle.kept_weights.specs.Decisions.{costs_of_step, costs_of_steps, cost_of_decisions, repaired_cost}
use Rattle.kept_weights.proofs.Apart.{same_or_far, AreBits-kept_code}
use Rattle.kept_weights.proofs.Costs.{cost-over_kept_code, cost-hard, costs_by_distance}

-- a pair for each step
pub length-costs_of_steps : (rate : CodeRate) (full n : ℕ) (decisions : List ℕ) → length (costs_of_steps rate full decisions n) ≡ n
length-costs_of_steps rate full n decisions = length-map-range_with_len (costs_of_step rate full decisions) 0 n

-- two lists that end in six zeros are the same, or cost together at least what the least kept weight can cost
same_or_dear : (rate : CodeRate) (full n : ℕ) (decisions u w : List ℕ) → IsClosed n u → IsClosed n w → (u ≡ w) ⊎ (full * least_weight rate ≤ cost (costs_of_steps rate full decisions n) u + cost (costs_of_steps rate full decisions n) w)
same_or_dear rate full n decisions u w cu cw =
    elim (same_or_far rate n u w cu cw) [
      | inl same ↦ inl same
      | inr far ↦
          let cost_u = cost-over_kept_code rate full n decisions u cu.long in
          let cost_w = cost-over_kept_code rate full n decisions w cw.long in
          let apart = costs_by_distance full (kept_count rate n) decisions (kept_code rate u) (kept_code rate w) (AreBits-kept_code rate u) (AreBits-kept_code rate w) in
          let more : full * least_weight rate ≤ full * distance_over (kept_count rate n) (kept_code rate u) (kept_code rate w) = mul-le-mul_left full far in
          inr (rw (cost_u, cost_w) (omega arith))
    ]

-- a list that costs less than half of that is the nearest list
pub cheap_is_nearest : (rate : CodeRate) (full n least : ℕ) (decisions u w : List ℕ) → IsClosed n w → 2 * cost (costs_of_steps rate full decisions n) w < full * least_weight rate → IsNearest (costs_of_steps rate full decisions n) u least → u ≡ w
cheap_is_nearest rate full n least decisions u w cw cheap nearest =
    let cu = rw (length-costs_of_steps rate full n decisions) at nearest.of_kind in
    let cw_there : IsClosed (length (costs_of_steps rate full decisions n)) w = rw (length-costs_of_steps rate full n decisions) cw in
    elim (same_or_dear rate full n decisions u w cu cw) [
      | inl same ↦ same
      | inr dear ↦ (let less = nearest.none_less w cw_there in let is = nearest.costs in absurd (omega arith))
    ]

-- and the nearest list's cost is its own
pub cheap_cost_is_least : (rate : CodeRate) (full n least : ℕ) (decisions u w : List ℕ) → IsClosed n w → 2 * cost (costs_of_steps rate full decisions n) w < full * least_weight rate → IsNearest (costs_of_steps rate full decisions n) u least → least ≡ cost (costs_of_steps rate full decisions n) w
cheap_cost_is_least rate full n least decisions u w cw cheap nearest =
    sym nearest.costs ∙ ap (cost (costs_of_steps rate full decisions n)) (cheap_is_nearest rate full n least decisions u w cw cheap nearest)

-- so many changes are fewer than half of the least kept weight
few_changes : (rate : CodeRate) (changes : ℕ) → changes ≤ flip_bound_of rate → 2 * changes < 1 * least_weight rate
few_changes Half changes h = omega arith
few_changes TwoThirds changes h = omega arith
few_changes ThreeQuarters changes h = omega arith

-- and so much cost is less than half of what it can cost
small_cost : (rate : CodeRate) (sum : ℕ) → sum ≤ repaired_cost rate → 2 * sum < 15 * least_weight rate
small_cost Half sum h = omega arith
small_cost TwoThirds sum h = omega arith
small_cost ThreeQuarters sum h = omega arith

-- hard decisions
cheap_where_few : (rate : CodeRate) (n : ℕ) (decisions w : List ℕ) → AreBits decisions → IsClosed n w → distance_over (kept_count rate n) (kept_code rate w) decisions ≤ flip_bound_of rate → 2 * cost (costs_of_steps rate 1 decisions n) w < 1 * least_weight rate
cheap_where_few rate n decisions w bits cw few =
    rw (cost-hard rate n decisions w cw.long bits) (few_changes rate _ few)

-- so the list is the nearest
pub flips_repaired : (rate : CodeRate) (n least : ℕ) (decisions u w : List ℕ) → AreBits decisions → IsClosed n w → distance_over (kept_count rate n) (kept_code rate w) decisions ≤ flip_bound_of rate → IsNearest (costs_of_steps rate 1 decisions n) u least → u ≡ w
flips_repaired rate n least decisions u w bits cw few =
    cheap_is_nearest rate 1 n least decisions u w cw (cheap_where_few rate n decisions w bits cw few)

-- and its cost is the number of changes
pub flips_counted : (rate : CodeRate) (n least : ℕ) (decisions u w : List ℕ) → AreBits decisions → IsClosed n w → distance_over (kept_count rate n) (kept_code rate w) decisions ≤ flip_bound_of rate → IsNearest (costs_of_steps rate 1 decisions n) u least → least ≡ distance_over (kept_count rate n) (kept_code rate w) decisions
flips_counted rate n least decisions u w bits cw few nearest =
    cheap_cost_is_least rate 1 n least decisions u w cw (cheap_where_few rate n decisions w bits cw few) nearest
    ∙ cost-hard rate n decisions w cw.long bits

-- soft decisions
cheap_where_small : (rate : CodeRate) (n : ℕ) (decisions w : List ℕ) → IsClosed n w → cost_of_decisions 15 decisions (kept_count rate n) (kept_code rate w) ≤ repaired_cost rate → 2 * cost (costs_of_steps rate 15 decisions n) w < 15 * least_weight rate
cheap_where_small rate n decisions w cw small =
    rw (cost-over_kept_code rate 15 n decisions w cw.long) (small_cost rate _ small)

-- so the list is the nearest
pub soft_repaired : (rate : CodeRate) (n least : ℕ) (decisions u w : List ℕ) → IsClosed n w → cost_of_decisions 15 decisions (kept_count rate n) (kept_code rate w) ≤ repaired_cost rate → IsNearest (costs_of_steps rate 15 decisions n) u least → u ≡ w
soft_repaired rate n least decisions u w cw small =
    cheap_is_nearest rate 15 n least decisions u w cw (cheap_where_small rate n decisions w cw small)

-- and its cost is what the decisions cost
pub soft_cost : (rate : CodeRate) (n least : ℕ) (decisions u w : List ℕ) → IsClosed n w → cost_of_decisions 15 decisions (kept_count rate n) (kept_code rate w) ≤ repaired_cost rate → IsNearest (costs_of_steps rate 15 decisions n) u least → least ≡ cost_of_decisions 15 decisions (kept_count rate n) (kept_code rate w)
soft_cost rate n least decisions u w cw small nearest =
    cheap_cost_is_least rate 15 n least decisions u w cw (cheap_where_small rate n decisions w cw small) nearest
    ∙ cost-over_kept_code rate 15 n decisions w cw.long
