-- The marks of values (own), over the kept places of the code (IEEE Std 802.11-2012, 18.3.5.6): these
-- carry the values in order, and the marks of all other places are absent.
use Rattle.std.specs.Prelude.{ℕ, ◌≤◌, All, List}
use Rattle.puncture_map.specs.Carried.{carried_at, carried_pair, carried_pairs}
use Rattle.rate_table.specs.declared.CodeRate.{CodeRate}
use Rattle.soft_trellis.specs.declared.Soft.{Soft}
use Rattle.soft_trellis.specs.declared.Soft.TheVariants.{Absent, Cost}

-- values are numbers from 0 to 15
abbrev pub IsValue : ℕ → Type 0
IsValue value = value ≤ 15

abbrev pub AreValues : List ℕ → Type 0
AreValues values = All IsValue values

-- the mark at a place of the code: a kept place has the value of its rank
abbrev pub mark_at : CodeRate → List ℕ → ℕ → Soft
mark_at rate values place = carried_at (λ value. Cost value) Absent rate values place

-- the pair of marks of a step, for A and for B
abbrev pub marks_at : CodeRate → List ℕ → ℕ → Soft × Soft
marks_at rate values step = carried_pair (λ value. Cost value) Absent rate values step

-- the pairs of marks of so many steps
abbrev pub marks_of : CodeRate → List ℕ → ℕ → List (Soft × Soft)
marks_of rate values steps = carried_pairs (λ value. Cost value) Absent rate values steps
