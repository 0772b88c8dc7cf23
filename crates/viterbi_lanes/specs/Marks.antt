-- Marks, and the nearest list to pairs of them (own), by the code of IEEE Std 802.11-2012,
-- 18.3.5.6.
use Rattle.std.specs.Prelude.{ℕ, ◌==◌, Bool, false, List, [], ◌∷◌, map, length, count_by, if◌then◌else◌}
use Rattle.std.specs.List.{flat_map, zip}
use Rattle.conv_code.specs.Code.{code_of}
use Rattle.survivor_memory.specs.declared.PairCosts.{PairCosts}
use Rattle.survivor_memory.specs.Nearest.{IsNearestBy}
use Rattle.survivor_memory.specs.Survivors.{Holds, MemoryView}
use Rattle.viterbi_lanes.specs.declared.Mark.{Mark}
use Rattle.viterbi_lanes.specs.declared.Mark.TheVariants.{Zero, One, Absent}

-- whether a mark is 0 or 1 and the bit is the other
abbrev pub differs : Mark → ℕ → Bool
differs Zero bit = bit == 1
differs One bit = bit == 0
differs Absent bit = false

-- the marks of the places of the code, those for A and B of each step in turn
abbrev pub by_place : List (Mark × Mark) → List Mark
by_place marks = flat_map (λ (a, b). a ∷ b ∷ []) marks

-- the distance of a list of bits: the number of places whose mark is 0 or 1 and differs from the
-- list's code
unfoldable pub distance : List (Mark × Mark) → List ℕ → ℕ
distance marks u = count_by (λ (mark, bit). differs mark bit) (zip (by_place marks) (code_of u))

-- the nearest list to pairs of marks, and its distance
abbrev pub IsNearestTo : List (Mark × Mark) → List ℕ → ℕ → Type 0
IsNearestTo marks u least = IsNearestBy (distance marks) (length marks) u least

-- what a pair of marks costs: 1 for each bit that differs from its mark
abbrev pub cost_at : Mark → ℕ → ℕ
cost_at mark bit = if differs mark bit then 1 else 0

abbrev pub costs_of : Mark × Mark → PairCosts
costs_of (a, b) = record {
  first_zero = cost_at a 0;
  first_one = cost_at a 1;
  second_zero = cost_at b 0;
  second_one = cost_at b 1;
}

-- a trellis stands for pairs of marks: its survivors are those of their costs, of which none is
-- above 2
abbrev pub StandsFor : MemoryView → List (Mark × Mark) → Type 0
StandsFor trellis marks = Holds 2 trellis (map costs_of marks)

-- where a mark stands in the table of what pairs of marks cost
abbrev pub place_in_costs : Mark → ℕ
place_in_costs Zero = 0
place_in_costs One = 1
place_in_costs Absent = 2
