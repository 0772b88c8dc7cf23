-- What decisions cost (own), over the kept places of the code (IEEE Std 802.11-2012, 18.3.5.6):
-- these carry the decisions in order, and the marks of all other places are absent. A decision v,
-- from 0 to a number that is called full, costs v for the bit 0 and full - v for the bit 1. Hard
-- decisions, 0 or 1, have full 1; soft ones, 0 to 15, have full 15.
use Rattle.std.specs.Prelude.{ℕ, ◌+◌, ◌-◌, ◌*◌, ◌==◌, List, map, slice_index, if◌then◌else◌}
use Rattle.std.specs.List.{range_with_len, sum_by}
use Rattle.rate_table.specs.declared.CodeRate.{CodeRate}
use Rattle.rate_table.specs.declared.CodeRate.TheVariants.{Half, TwoThirds, ThreeQuarters}
use Rattle.puncture_map.specs.Carried.{carried_at}
use Rattle.survivor_memory.specs.declared.PairCosts.{PairCosts}

-- what a decision costs for a bit
abbrev pub decision_cost : ℕ → ℕ → ℕ → ℕ
decision_cost full decision bit = if bit == 0 then decision else full - decision

-- what the mark at a place of the code costs for a bit: a kept place has the decision of its rank
abbrev pub mark_cost : CodeRate → ℕ → List ℕ → ℕ → ℕ → ℕ
mark_cost rate full decisions place bit =
    carried_at (λ decision. decision_cost full decision bit) 0 rate decisions place

-- what the pair of marks of a step costs, for A and for B
unfoldable pub costs_of_step : CodeRate → ℕ → List ℕ → ℕ → PairCosts
costs_of_step rate full decisions step = record {
  first_zero = mark_cost rate full decisions (2 * step) 0;
  first_one = mark_cost rate full decisions (2 * step) 1;
  second_zero = mark_cost rate full decisions (2 * step + 1) 0;
  second_one = mark_cost rate full decisions (2 * step + 1) 1;
}

-- and those of so many steps
abbrev pub costs_of_steps : CodeRate → ℕ → List ℕ → ℕ → List PairCosts
costs_of_steps rate full decisions steps =
    map (costs_of_step rate full decisions) (range_with_len 0 steps)

-- what the bits of a kept code cost against the first so many decisions: the sum, place by place
unfoldable pub cost_of_decisions : ℕ → List ℕ → ℕ → List ℕ → ℕ
cost_of_decisions full decisions count bits =
    sum_by (λ place. decision_cost full (slice_index decisions place) (slice_index bits place))
    (range_with_len 0 count)

-- what soft decisions may cost against the kept code of the list that the nearest list then is
abbrev pub repaired_cost : CodeRate → ℕ
repaired_cost Half = 74
repaired_cost TwoThirds = 44
repaired_cost ThreeQuarters = 37
