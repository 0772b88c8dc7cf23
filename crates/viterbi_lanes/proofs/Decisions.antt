-- The marks of decisions, and what they cost.
use Rattle.std.proofs.Common.{◌≡◌, ℕ, zero, suc, ◌+◌, ◌*◌, List, [], ◌∷◌, ◌++◌, Bool, true, false, length, map, get_or, take, refl, sym, ◌∙◌, append_assoc, arith}
use Rattle.std.specs.Prelude.{◌==◌, if◌then◌else◌}
use Rattle.std.specs.List.{range_with_len}
use Rattle.std.proofs.lemmas.List.FromFn.{length-map-range_with_len}
use Rattle.bit_lists.specs.Bits.{IsBit, AreBits}
use Rattle.bit_lists.proofs.BitFacts.{IsBit-slice_index, on_two_bits}
use Rattle.rate_table.specs.declared.CodeRate.{CodeRate}
use Rattle.puncture_map.specs.Carried.{carried_pair}
use Rattle.puncture_map.specs.Kept.{is_kept, kept_count, rank}
use Rattle.puncture_map.proofs.Carried.{carried_pairs-more, carried_pairs-take}
use Rattle.survivor_memory.specs.Nearest.{IsNearest}
use Rattle.kept_weights.proofs.Costs.{cost-hard}
use Rattle.kept_weights.proofs.Nearest.{flips_counted, flips_repaired}
use Rattle.kept_weights.specs.Decisions.{decision_cost, mark_cost, costs_of_step, costs_of_steps}
use Rattle.viterbi_lanes.specs.declared.Mark.TheVariants.{Zero, One, Absent}
use Rattle.viterbi_lanes.specs.Decisions.{AreNearlyKeptCode, changes, mark_at, mark_of, marks_at, marks_of}
use Rattle.viterbi_lanes.specs.Marks.{cost_at, costs_of, distance}
use Rattle.viterbi_lanes.proofs.Distances.{distance_is_cost}

-- what the mark of a decision costs, where its place is kept, and where it isn't
mark_costs : (kept : Bool) (decision bit : ℕ) → IsBit decision → IsBit bit
    → cost_at (if kept then (if decision == 0 then Zero else One) else Absent) bit ≡ (if kept then decision_cost 1 decision bit else 0)
mark_costs false decision bit p q = refl
mark_costs true decision bit p q =
    on_two_bits (λ decision bit. cost_at (if decision == 0 then Zero else One) bit ≡ decision_cost 1 decision bit) refl refl refl refl decision bit p q

mark_at_costs : (rate : CodeRate) (decisions : List ℕ) (place bit : ℕ) → AreBits decisions → IsBit bit → cost_at (mark_at rate decisions place) bit ≡ mark_cost rate 1 decisions place bit
mark_at_costs rate decisions place bit bits q =
    mark_costs (is_kept rate place) (get_or decisions (rank rate place) 0) bit (IsBit-slice_index decisions (rank rate place) bits) q

-- the costs of a step's marks are those of the decisions
marks_at_costs : (rate : CodeRate) (decisions : List ℕ) (step : ℕ) → AreBits decisions → costs_of (marks_at rate decisions step) ≡ costs_of_step rate 1 decisions step
unfolding carried_pair costs_of_step
marks_at_costs rate decisions step bits =
    let at : (place bit : ℕ) → IsBit bit → cost_at (mark_at rate decisions place) bit ≡ mark_cost rate 1 decisions place bit = λ place bit q. mark_at_costs rate decisions place bit bits q in
    rw (at (2 * step) 0 (omega arith), at (2 * step) 1 (omega arith), at (2 * step + 1) 0 (omega arith), at (2 * step + 1) 1 (omega arith))

-- and so of all
pub marks_of_costs : (rate : CodeRate) (decisions : List ℕ) → AreBits decisions → (steps : ℕ) → map costs_of (marks_of rate decisions steps) ≡ costs_of_steps rate 1 decisions steps
marks_of_costs rate decisions bits steps = from 0 steps
  where
    from : (start count : ℕ) → map costs_of (map (marks_at rate decisions) (range_with_len start count)) ≡ map (costs_of_step rate 1 decisions) (range_with_len start count)
    from start zero = refl
    from start (suc count) = rw (marks_at_costs rate decisions start bits, from (start + 1) count)

-- the marks are made step by step
pub marks_of_more : (rate : CodeRate) (decisions : List ℕ) (steps : ℕ) → marks_of rate decisions (steps + 1) ≡ marks_of rate decisions steps ++ marks_at rate decisions steps ∷ []
marks_of_more = carried_pairs-more mark_of Absent

-- two steps more, and three
pub marks_of_two_more : (rate : CodeRate) (decisions : List ℕ) (steps : ℕ)
    → marks_of rate decisions (steps + 2) ≡ marks_of rate decisions steps ++ marks_at rate decisions steps ∷ marks_at rate decisions (steps + 1) ∷ []
marks_of_two_more rate decisions steps =
    let two : steps + 2 ≡ steps + 1 + 1 = omega arith in
    rw (two, marks_of_more rate decisions (steps + 1), marks_of_more rate decisions steps)
    (append_assoc (marks_of rate decisions steps) (marks_at rate decisions steps ∷ []) (marks_at rate decisions (steps + 1) ∷ []))

pub marks_of_three_more : (rate : CodeRate) (decisions : List ℕ) (steps : ℕ)
    → marks_of rate decisions (steps + 3)
    ≡ marks_of rate decisions steps ++ marks_at rate decisions steps ∷ marks_at rate decisions (steps + 1) ∷ marks_at rate decisions (steps + 2) ∷ []
marks_of_three_more rate decisions steps =
    let three : steps + 3 ≡ steps + 2 + 1 = omega arith in
    rw (three, marks_of_more rate decisions (steps + 2), marks_of_two_more rate decisions steps)
    (append_assoc (marks_of rate decisions steps) (marks_at rate decisions steps ∷ marks_at rate decisions (steps + 1) ∷ []) (marks_at rate decisions (steps + 2) ∷ []))

-- a list's distance to the marks of decisions is the number of those that differ from its kept code
pub distance_of_decisions : (rate : CodeRate) (steps : ℕ) (u decisions : List ℕ) → AreBits decisions → length u ≡ steps → distance (marks_of rate decisions steps) u ≡ changes rate steps u decisions
distance_of_decisions rate steps u decisions bits long =
    let count : length (marks_of rate decisions steps) ≡ steps = length-map-range_with_len (marks_at rate decisions) 0 steps in
    rw (distance_is_cost (marks_of rate decisions steps) u (long ∙ sym count), marks_of_costs rate decisions bits steps) (cost-hard rate steps decisions u long bits)

-- a list that ends in six zeros, of whose kept code few bits were changed, is the nearest, and its distance counts them
pub found_again : (rate : CodeRate) (steps least : ℕ) (v u decisions : List ℕ) → AreNearlyKeptCode rate steps u decisions → IsNearest (map costs_of (marks_of rate decisions steps)) v least → (v ≡ u) × (least ≡ changes rate steps u decisions)
found_again rate steps least v u decisions nearly nearest =
    let by_cost = rw (marks_of_costs rate decisions nearly.bits steps) at nearest in
    (flips_repaired rate steps least decisions v u nearly.bits nearly.closed nearly.few by_cost, flips_counted rate steps least decisions v u nearly.bits nearly.closed nearly.few by_cost)

-- decisions behind those that the steps carry play no part
pub marks_of-take : (rate : CodeRate) (decisions : List ℕ) (steps : ℕ) → marks_of rate (take (kept_count rate steps) decisions) steps ≡ marks_of rate decisions steps
marks_of-take = carried_pairs-take mark_of Absent
