-- The distance of a list is its cost.
use Rattle.std.proofs.Common.{◌≡◌, ℕ, zero, suc, ◌+◌, ◌≤◌, List, [], ◌∷◌, true, false, cond, length, map, refl, sym, ◌∙◌, arith}
use Rattle.std.specs.Prelude.{count_by, ◌==◌, if◌then◌else◌}
use Rattle.std.specs.List.{flat_map, range_with_len, zip}
use Rattle.std.proofs.lemmas.List.{length-map}
use Rattle.std.proofs.lemmas.List.Sums.{sum_by-cons}
use Rattle.std.proofs.lemmas.List.Elements.{All-map}
use Rattle.bit_lists.specs.Bits.{IsBit}
use Rattle.conv_code.specs.Code.{parity_a, parity_b, parities}
use Rattle.conv_code.proofs.Coded.{IsBit-parity_a, IsBit-parity_b}
use Rattle.survivor_memory.specs.Costs.{price, cost, most_cost, CostAtMost}
use Rattle.survivor_memory.specs.Nearest.{IsNearest}
use Rattle.survivor_memory.proofs.Sums.{cost_from, cost_from-nil, cost_from-cons, cost_is}
use Rattle.viterbi_lanes.specs.declared.Mark.{Mark}
use Rattle.viterbi_lanes.specs.Marks.{by_place, cost_at, costs_of, differs, distance, IsNearestTo}

-- what a mark costs at a bit
mark_cost : (mark : Mark) (bit : ℕ) → IsBit bit → (if bit == 0 then cost_at mark 0 else cost_at mark 1) ≡ cond (differs mark bit) 1 0
mark_cost mark zero h = refl
mark_cost mark (suc zero) h = refl
mark_cost mark (suc (suc bit)) h = absurd (omega arith)

-- what a pair costs at two bits
pair_cost : (a b : Mark) (x y : ℕ) → IsBit x → IsBit y → price (costs_of (a, b)) x y ≡ cond (differs a x) 1 0 + cond (differs b y) 1 0
unfolding price
pair_cost a b x y p q = rw (mark_cost a x p, mark_cost b y q)

-- the places that differ, counted from a place on
differences_from : ℕ → List (Mark × Mark) → List ℕ → ℕ
differences_from start marks u = count_by (λ (mark, bit). differs mark bit) (zip (by_place marks) (flat_map (parities u) (range_with_len start (length marks))))

differences_from_is_cost : (u : List ℕ) (start : ℕ) (marks : List (Mark × Mark)) → differences_from start marks u ≡ cost_from start (map costs_of marks) u
unfolding differences_from
differences_from_is_cost u start [] = sym (cost_from-nil start u)
differences_from_is_cost u start ((a, b) ∷ marks) =
    let test : Mark × ℕ → ℕ = λ x. cond {A = ℕ} (differs x.0 x.1) 1 0 in
    let rest = zip (by_place marks) (flat_map (parities u) (range_with_len (start + 1) (length marks))) in
    rw (cost_from-cons start (costs_of (a, b)) (map costs_of marks) u, pair_cost a b (parity_a u start) (parity_b u start) (IsBit-parity_a u start) (IsBit-parity_b u start), ← differences_from_is_cost u (start + 1) marks)
    (sum_by-cons test (a, parity_a u start) ((b, parity_b u start) ∷ rest) ∙ rw (sum_by-cons test (b, parity_b u start) rest) (omega arith))

pub distance_is_cost : (marks : List (Mark × Mark)) (u : List ℕ) → length u ≡ length marks → distance marks u ≡ cost (map costs_of marks) u
unfolding distance differences_from
distance_is_cost marks u long = rw (cost_is, long) (differences_from_is_cost u 0 marks)

-- a pair of marks costs at most 2
mark_cost_le : (mark : Mark) (bit : ℕ) → cost_at mark bit ≤ 1
mark_cost_le mark bit = elim (differs mark bit) as (λ v. (if v then 1 else 0) ≤ 1) [ true ↦ omega arith | false ↦ omega arith ]

pub pair_costs_at_most_2 : (a b : Mark) → most_cost (costs_of (a, b)) ≤ 2
pair_costs_at_most_2 a b = omega (arith, mark_cost_le)

pub marks_cost_at_most_2 : (marks : List (Mark × Mark)) → CostAtMost 2 (map costs_of marks)
marks_cost_at_most_2 marks =
    All-map (λ pair. most_cost pair ≤ 2) costs_of marks
    (λ k d h. omega (arith, mark_cost_le))

-- the nearest list by cost is the nearest by distance
pub nearest_by_distance : (marks : List (Mark × Mark)) (u : List ℕ) (least : ℕ) → IsNearest (map costs_of marks) u least → IsNearestTo marks u least
nearest_by_distance marks u least nearest =
    let count : length (map costs_of marks) ≡ length marks = length-map marks costs_of in
    let by_cost = rw count at nearest in
    record {
      of_kind = by_cost.of_kind;
      costs = distance_is_cost marks u by_cost.of_kind.long ∙ by_cost.costs;
      none_less = λ v closed. rw (distance_is_cost marks v closed.long) (by_cost.none_less v closed);
      comes_first = λ v closed same. by_cost.comes_first v closed (sym (distance_is_cost marks v closed.long) ∙ same);
    }
