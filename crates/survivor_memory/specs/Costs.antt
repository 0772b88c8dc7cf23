-- What a list of bits costs against pairs of marks (own), by the code of IEEE Std 802.11-2012,
-- 18.3.5.6. A pair of marks is given by what its marks for A and B cost, each at the bit 0 and at
-- the bit 1.
use Rattle.std.specs.Prelude.{ℕ, ◌+◌, ◌*◌, ◌/◌, ◌%◌, ◌<◌, ◌≤◌, ◌==◌, ◌≡◌, List, All, max, slice_index, if◌then◌else◌}
use Rattle.std.specs.List.{enumerate_from, sum_by}
use Rattle.conv_code.specs.Code.{parity_a, parity_b}
use Rattle.conv_code.specs.States.{branch_a, branch_b}
use Rattle.survivor_memory.specs.declared.BranchCosts.{BranchCosts}
use Rattle.survivor_memory.specs.declared.PairCosts.{PairCosts}

-- what a pair costs where the code has the bits a and b
unfoldable pub price : PairCosts → ℕ → ℕ → ℕ
price pair a b =
    (if a == 0 then pair.first_zero else pair.first_one)
    + (if b == 0 then pair.second_zero else pair.second_one)

-- the cost of a list of bits: the sum, over the pairs, of what each costs at the two parities of
-- its place
unfoldable pub cost : List PairCosts → List ℕ → ℕ
cost pairs u =
    sum_by (λ (place, pair). price pair (parity_a u place) (parity_b u place))
    (enumerate_from 0 pairs)

-- the most that a pair can cost
abbrev pub most_cost : PairCosts → ℕ
most_cost pair = max pair.first_zero pair.first_one + max pair.second_zero pair.second_one

-- what two pairs cost together
abbrev pub both_costs : PairCosts → PairCosts → PairCosts
both_costs pair other = record {
  first_zero = pair.first_zero + other.first_zero;
  first_one = pair.first_one + other.first_one;
  second_zero = pair.second_zero + other.second_zero;
  second_one = pair.second_one + other.second_one;
}

-- seven such pairs cost less than 255
abbrev pub IsLight : PairCosts → Type 0
IsLight pair = 7 * most_cost pair < 255

-- no pair of a list can cost more than so much
abbrev pub CostAtMost : ℕ → List PairCosts → Type 0
CostAtMost most pairs = All (λ pair. most_cost pair ≤ most) pairs

-- what a pair costs on the branches into each state, from its lower and from its higher predecessor:
-- the price of the code's bits there
pub record AreBranchCosts (pair : PairCosts) (branches : BranchCosts) : Type 0 where
  pub lower : (s : ℕ) → s < 64 → slice_index branches.lower s
      ≡ price pair (branch_a (s / 2) (s % 2)) (branch_b (s / 2) (s % 2))
  pub higher : (s : ℕ) → s < 64 → slice_index branches.higher s
      ≡ price pair (branch_a (s / 2 + 32) (s % 2)) (branch_b (s / 2 + 32) (s % 2))
