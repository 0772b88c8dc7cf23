-- Soft marks, and the list of bits that costs least against pairs of them (own), by the code of IEEE
-- Std 802.11-2012, 18.3.5.6.
use Rattle.std.specs.Prelude.{ℕ, ◌≤◌, All, List, map}
use Rattle.kept_weights.specs.Decisions.{decision_cost}
use Rattle.soft_trellis.specs.declared.Soft.{Soft}
use Rattle.soft_trellis.specs.declared.Soft.TheVariants.{Absent, Cost}
use Rattle.survivor_memory.specs.declared.PairCosts.{PairCosts}
use Rattle.survivor_memory.specs.Costs.{cost}
use Rattle.survivor_memory.specs.Nearest.{IsNearest}
use Rattle.survivor_memory.specs.Survivors.{Holds, MemoryView}

-- a mark is absent, or a number from 0 to 15
abbrev pub IsMark : Soft → Type 0
IsMark Absent = Unit {0}
IsMark (Cost number) = number ≤ 15

-- what a mark costs for a bit: a number costs itself for the bit 0, and what it lacks of 15 for the
-- bit 1; an absent mark costs nothing
abbrev pub cost_at : Soft → ℕ → ℕ
cost_at Absent bit = 0
cost_at (Cost number) bit = decision_cost 15 number bit

-- and a pair of marks, for A and for B
abbrev pub costs_of : Soft × Soft → PairCosts
costs_of (a, b) = record {
  first_zero = cost_at a 0;
  first_one = cost_at a 1;
  second_zero = cost_at b 0;
  second_one = cost_at b 1;
}

-- where a mark stands in the tables of what marks cost
abbrev pub place_in_costs : Soft → ℕ
place_in_costs Absent = 16
place_in_costs (Cost number) = number

-- the cost of a list of bits against as many pairs of marks: the sum over the places of its code
abbrev pub soft_cost : List (Soft × Soft) → List ℕ → ℕ
soft_cost marks u = cost (map costs_of marks) u

-- the list of least cost of those that end in six zeros, and its cost; of several, the first
abbrev pub IsCheapest : List (Soft × Soft) → List ℕ → ℕ → Type 0
IsCheapest marks u least = IsNearest (map costs_of marks) u least

-- pairs of such marks
abbrev pub AreMarks : List (Soft × Soft) → Type 0
AreMarks marks = All (λ (a, b). IsMark a × IsMark b) marks

-- a trellis stands for pairs of marks: its survivors are those of their costs, of which none is
-- above 30
pub record StandsFor (trellis : MemoryView) (marks : List (Soft × Soft)) : Type 0 where
  pub are_marks : AreMarks marks
  pub holds : Holds 30 trellis (map costs_of marks)
