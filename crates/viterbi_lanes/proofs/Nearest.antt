-- Pairs of marks have one nearest list, and for few changes it is the one whose code they are.
use Rattle.std.proofs.Common.{◌≡◌, ℕ, ◌≤◌, List, length, map, ◌∙◌, subst, arith}
use Rattle.std.proofs.lemmas.List.{length-map}
use Rattle.std.proofs.lemmas.List.FromFn.{length-map-range_with_len}
use Rattle.rate_table.specs.declared.CodeRate.{CodeRate}
use Rattle.survivor_memory.specs.Costs.{cost}
use Rattle.survivor_memory.proofs.Existing.{some_nearest}
use Rattle.survivor_memory.proofs.Order.{one_first}
use Rattle.viterbi_lanes.specs.declared.Mark.{Mark}
use Rattle.viterbi_lanes.specs.Decisions.{AreNearlyKeptCode, changes, marks_at, marks_of}
use Rattle.viterbi_lanes.specs.Marks.{IsNearestTo, costs_of, distance}
use Rattle.viterbi_lanes.proofs.Decisions.{found_again}
use Rattle.viterbi_lanes.proofs.Distances.{nearest_by_distance}

-- to at least six pairs there is a nearest list
pub some_nearest_to : (marks : List (Mark × Mark)) → 6 ≤ length marks → (u : List ℕ) × ((least : ℕ) × IsNearestTo marks u least)
some_nearest_to marks some = some_nearest (distance marks) (length marks) some

-- and only one, with one least distance
pub one_nearest_to : (marks : List (Mark × Mark)) (u v : List ℕ) (d e : ℕ) → IsNearestTo marks u d → IsNearestTo marks v e → (u ≡ v) × (d ≡ e)
one_nearest_to marks = one_first _ (distance marks)

-- few changes of a kept code leave its list the nearest, and their number its distance
pub few_changes_repaired : (rate : CodeRate) (steps : ℕ) (u decisions : List ℕ) → 6 ≤ steps → AreNearlyKeptCode rate steps u decisions → IsNearestTo (marks_of rate decisions steps) u (changes rate steps u decisions)
few_changes_repaired rate steps u decisions some nearly =
    let marks = marks_of rate decisions steps in
    let pairs = map costs_of marks in
    let count : length pairs ≡ steps = length-map marks costs_of ∙ length-map-range_with_len (marks_at rate decisions) 0 steps in
    let nearest = some_nearest (cost pairs) (length pairs) (omega (arith, count)) in
    let found = found_again rate steps nearest.1.0 nearest.0 u decisions nearly nearest.1.1 in
    let by_distance = nearest_by_distance marks nearest.0 nearest.1.0 nearest.1.1 in
    subst (λ d. IsNearestTo marks u d) found.1 (subst (λ v. IsNearestTo marks v nearest.1.0) found.0 by_distance)
