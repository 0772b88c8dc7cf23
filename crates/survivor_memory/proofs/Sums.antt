-- Costs as sums.
use Rattle.std.proofs.Common.{◌≡◌, ℕ, suc, ◌+◌, ◌*◌, ◌≤◌, List, [], ◌∷◌, ◌++◌, length, max, refl, arith}
use Rattle.std.specs.Prelude.{All, Bool, true, false, ◌==◌, if◌then◌else◌}
use Rattle.std.specs.List.{enumerate_from, sum_by}
use Rattle.std.proofs.lemmas.List.Sums.{sum_by-cons}
use Rattle.std.proofs.lemmas.List.Elements.{All-head, All-tail}
use Rattle.conv_code.specs.Code.{parity_a, parity_b}
use Rattle.survivor_memory.specs.declared.PairCosts.{PairCosts}
use Rattle.survivor_memory.specs.Costs.{price, cost, most_cost}
use Rattle.survivor_memory.proofs.Prefixes.{SameBelow, parity_a_same, parity_b_same}

-- the cost of pairs that begin at a place
pub cost_from : ℕ → List PairCosts → List ℕ → ℕ
cost_from start pairs u = sum_by (λ (place, pair). price pair (parity_a u place) (parity_b u place)) (enumerate_from start pairs)

pub cost_is : (pairs : List PairCosts) (u : List ℕ) → cost pairs u ≡ cost_from 0 pairs u
unfolding cost cost_from
cost_is pairs u = refl

-- no pairs cost nothing
pub cost_from-nil : (start : ℕ) (u : List ℕ) → cost_from start [] u ≡ 0
unfolding cost_from
cost_from-nil start u = refl

-- the first pair, and the rest
pub cost_from-cons : (start : ℕ) (pair : PairCosts) (pairs : List PairCosts) (u : List ℕ) → cost_from start (pair ∷ pairs) u ≡ price pair (parity_a u start) (parity_b u start) + cost_from (start + 1) pairs u
unfolding cost_from
cost_from-cons start pair pairs u = sum_by-cons _ (start, pair) (enumerate_from (start + 1) pairs)

-- pairs, and more behind them
pub cost_from-append : (start : ℕ) (ps qs : List PairCosts) (u : List ℕ) → cost_from start (ps ++ qs) u ≡ cost_from start ps u + cost_from (start + length ps) qs u
cost_from-append start [] qs u =
    let same : start + 0 ≡ start = omega arith in
    rw (same, cost_from-nil) (omega arith)
cost_from-append start (pair ∷ ps) qs u =
    let same : start + suc (length ps) ≡ start + 1 + length ps = omega arith in
    rw (same, cost_from-cons start pair (ps ++ qs) u, cost_from-cons start pair ps u, cost_from-append (start + 1) ps qs u) (omega arith)

-- the cost of pairs depends only on the places that they have
pub cost_from_same : (n : ℕ) (u w : List ℕ) → SameBelow n u w → (start : ℕ) (pairs : List PairCosts) → start + length pairs ≤ n → cost_from start pairs u ≡ cost_from start pairs w
cost_from_same n u w same start [] h = rw (cost_from-nil start u, cost_from-nil start w)
cost_from_same n u w same start (pair ∷ pairs) h =
    rw (cost_from-cons start pair pairs u, cost_from-cons start pair pairs w, parity_a_same n u w same start (omega arith), parity_b_same n u w same start (omega arith), cost_from_same n u w same (start + 1) pairs (omega arith))

-- either of two numbers is at most the larger
either_le : (first : Bool) (x y : ℕ) → (if first then x else y) ≤ max x y
either_le true x y = omega arith
either_le false x y = omega arith

-- a pair costs at most its most
pub price_le : (pair : PairCosts) (a b : ℕ) → price pair a b ≤ most_cost pair
unfolding price
price_le pair a b =
    omega (arith, either_le (a == 0) pair.first_zero pair.first_one, either_le (b == 0) pair.second_zero pair.second_one)

-- so pairs cost at most so much each
pub cost_from_le : (most : ℕ) (u : List ℕ) (start : ℕ) (pairs : List PairCosts) → All (λ pair. most_cost pair ≤ most) pairs → cost_from start pairs u ≤ length pairs * most
cost_from_le most u start [] all = rw cost_from-nil (omega arith)
cost_from_le most u start (pair ∷ pairs) all =
    let first : most_cost pair ≤ most = All-head (λ pair. most_cost pair ≤ most) pair pairs all in
    let rest = cost_from_le most u (start + 1) pairs (All-tail (λ pair. most_cost pair ≤ most) pair pairs all) in
    rw cost_from-cons (omega (arith, price_le pair (parity_a u start) (parity_b u start), rest, first))
