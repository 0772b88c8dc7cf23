-- Soft marks, and what they cost.
use Rattle.std.proofs.Common.{◌≡◌, ℕ, zero, suc, ◌+◌, ◌*◌, ◌<◌, ◌≤◌, List, [], ◌∷◌, ◌++◌, Bool, true, false, length, map, get_or, refl, arith}
use Rattle.std.specs.Prelude.{if◌then◌else◌}
use Rattle.std.specs.List.{range_with_len}
use Rattle.std.proofs.lemmas.List.{get_or-map, length-map, map-append}
use Rattle.std.proofs.lemmas.List.Elements.{All-append, All-nil}
use Rattle.puncture_map.specs.Carried.{carried_pair}
use Rattle.puncture_map.specs.Kept.{is_kept, rank}
use Rattle.puncture_map.proofs.Carried.{carried_pairs-more}
use Rattle.rate_table.specs.declared.CodeRate.{CodeRate}
use Rattle.survivor_memory.specs.declared.PairCosts.{PairCosts}
use Rattle.survivor_memory.specs.Costs.{CostAtMost, both_costs, most_cost}
use Rattle.survivor_memory.specs.Survivors.{Holds, MemoryView}
use Rattle.kept_weights.specs.Decisions.{costs_of_step, costs_of_steps, decision_cost, mark_cost}
use Rattle.soft_trellis.specs.declared.Soft.{Soft}
use Rattle.soft_trellis.specs.declared.Soft.TheVariants.{Absent, Cost}
use Rattle.soft_trellis.specs.Marks.{AreMarks, IsMark, StandsFor, cost_at, costs_of}
use Rattle.soft_trellis.specs.Values.{mark_at, marks_at, marks_of}

-- a mark costs at most 15
mark_cost_le : (mark : Soft) → IsMark mark → (cost_at mark 0 ≤ 15) × (cost_at mark 1 ≤ 15)
mark_cost_le Absent is = (omega arith, omega arith)
mark_cost_le (Cost number) is = (is, omega arith)

pair_at_most_30 : (a b : Soft) → IsMark a → IsMark b → most_cost (costs_of (a, b)) ≤ 30
pair_at_most_30 a b p q = omega (arith, mark_cost_le a p, mark_cost_le b q)

-- a pair costs what its first and its second mark cost beside an absent one
pub both_marks : (a b : Soft) → both_costs (costs_of (a, Absent)) (costs_of (Absent, b)) ≡ costs_of (a, b)
both_marks a b =
    let first : (bit : ℕ) → cost_at a bit + 0 ≡ cost_at a bit = λ bit. omega arith in
    let second : (bit : ℕ) → 0 + cost_at b bit ≡ cost_at b bit = λ bit. omega arith in
    rw (first 0, first 1, second 0, second 1)

pub both_at_most_30 : (a b : Soft) → IsMark a → IsMark b → most_cost (both_costs (costs_of (a, Absent)) (costs_of (Absent, b))) ≤ 30
both_at_most_30 a b p q = omega (arith, mark_cost_le a p, mark_cost_le b q)

-- so pairs of marks cost at most 30 each
pub marks_cost_at_most_30 : (marks : List (Soft × Soft)) → AreMarks marks → CostAtMost 30 (map costs_of marks)
marks_cost_at_most_30 marks are = λ k d within.
    let inside : k < length marks = omega (arith, length-map marks costs_of) in
    let pair : Soft × Soft = get_or marks k (Absent, Absent) in
    let is : IsMark pair.0 × IsMark pair.1 = are k (Absent, Absent) inside in
    rw (get_or-map costs_of marks k (Absent, Absent) d inside) (pair_at_most_30 pair.0 pair.1 is.0 is.1)

-- no pairs
pub stands_for_none : (trellis : MemoryView) → Holds 30 trellis [] → StandsFor trellis []
stands_for_none trellis holds = record { are_marks = All-nil (λ (a, b). IsMark a × IsMark b); holds = holds }

-- one pair more
pub stands_pushed : (before after : MemoryView) (marks : List (Soft × Soft)) (a b : Soft) → IsMark a → IsMark b → StandsFor before marks → ((pairs : List PairCosts) → Holds 30 before pairs → Holds 30 after (pairs ++ costs_of (a, b) ∷ [])) → StandsFor after (marks ++ (a, b) ∷ [])
stands_pushed before after marks a b p q stands pushed = record {
  are_marks = All-append (λ (a, b). IsMark a × IsMark b) marks ((a, b) ∷ []) stands.are_marks one;
  holds = rw (map-append costs_of marks ((a, b) ∷ [])) (pushed (map costs_of marks) stands.holds);
}
  where
    one : AreMarks ((a, b) ∷ [])
    one zero d lt = (p, q)
    one (suc k) d lt = absurd (omega arith)

-- what the mark of a value costs, where its place is kept, and where it isn't
mark_costs : (kept : Bool) (value bit : ℕ) → cost_at (if kept then Cost value else Absent) bit ≡ (if kept then decision_cost 15 value bit else 0)
mark_costs false value bit = refl
mark_costs true value bit = refl

mark_at_costs : (rate : CodeRate) (values : List ℕ) (place bit : ℕ) → cost_at (mark_at rate values place) bit ≡ mark_cost rate 15 values place bit
mark_at_costs rate values place bit = mark_costs (is_kept rate place) (get_or values (rank rate place) 0) bit

-- the costs of a step's marks are those of the values
marks_at_costs : (rate : CodeRate) (values : List ℕ) (step : ℕ) → costs_of (marks_at rate values step) ≡ costs_of_step rate 15 values step
unfolding carried_pair costs_of_step
marks_at_costs rate values step =
    let at = mark_at_costs rate values in
    rw (at (2 * step) 0, at (2 * step) 1, at (2 * step + 1) 0, at (2 * step + 1) 1) refl

-- and so of all
pub marks_of_costs : (rate : CodeRate) (values : List ℕ) (steps : ℕ) → map costs_of (marks_of rate values steps) ≡ costs_of_steps rate 15 values steps
marks_of_costs rate values steps = from 0 steps
  where
    from : (start count : ℕ) → map costs_of (map (marks_at rate values) (range_with_len start count)) ≡ map (costs_of_step rate 15 values) (range_with_len start count)
    from start zero = refl
    from start (suc count) = rw (marks_at_costs rate values start, from (start + 1) count) refl

-- the marks are made step by step
pub marks_of_more : (rate : CodeRate) (values : List ℕ) (steps : ℕ) → marks_of rate values (steps + 1) ≡ marks_of rate values steps ++ marks_at rate values steps ∷ []
marks_of_more = carried_pairs-more (λ value. Cost value) Absent
