-- Tables of what pairs of marks cost on the branches, shown by computing.
use Rattle.std.proofs.Common.{◌≡◌, ℕ, ◌+◌, ◌/◌, ◌%◌, Bool, true, eqb, get_or}
use Rattle.std.proofs.lemmas.Bool.{agree_below, agree_below_at, eqb-true}
use Rattle.conv_code.specs.States.{branch_a, branch_b}
use Rattle.survivor_memory.specs.declared.BranchCosts.{BranchCosts}
use Rattle.survivor_memory.specs.declared.PairCosts.{PairCosts}
use Rattle.survivor_memory.specs.Costs.{AreBranchCosts, price}

-- an entry of a row is what the pair costs there
unfoldable pub is_lower : PairCosts → BranchCosts → ℕ → Bool
is_lower pair row s = eqb (get_or row.lower s 0) (price pair (branch_a (s / 2) (s % 2)) (branch_b (s / 2) (s % 2)))

unfoldable pub is_higher : PairCosts → BranchCosts → ℕ → Bool
is_higher pair row s = eqb (get_or row.higher s 0) (price pair (branch_a (s / 2 + 32) (s % 2)) (branch_b (s / 2 + 32) (s % 2)))

-- a row of which all entries are
pub are_branch_costs : (pair : PairCosts) (row : BranchCosts) → agree_below (is_lower pair row) (λ _. true) 64 ≡ true → agree_below (is_higher pair row) (λ _. true) 64 ≡ true → AreBranchCosts pair row
unfolding is_lower is_higher
are_branch_costs pair row lower higher = record {
  lower = λ s h. eqb-true _ _ (agree_below_at (is_lower pair row) (λ _. true) 64 s lower h);
  higher = λ s h. eqb-true _ _ (agree_below_at (is_higher pair row) (λ _. true) 64 s higher h);
}
