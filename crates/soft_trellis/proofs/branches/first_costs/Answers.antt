use Rattle.std.proofs.Common.{ℕ, Bool, true, get_or, refl, arith}
use Rattle.std.proofs.lemmas.Bool.{agree_below, agree_below_at}
use Rattle.conv_code.specs.Code.{earlier, parity_a, parity_b}
use Rattle.survivor_memory.specs.declared.BranchCosts.{BranchCosts}
use Rattle.survivor_memory.specs.Costs.{AreBranchCosts, price}
use Rattle.survivor_memory.proofs.Tables.{are_branch_costs, is_higher, is_lower}
use Rattle.soft_trellis.specs.declared.branches.TheConstants.{FIRST_COSTS}
use Rattle.soft_trellis.specs.declared.Soft.{Soft}
use Rattle.soft_trellis.specs.declared.Soft.TheVariants.{Absent, Cost}
use Rattle.soft_trellis.specs.Marks.{IsMark, costs_of, place_in_costs}
use Rattle.soft_trellis.proofs.branches.first_costs.Goals as goal

-- whether all entries of a number's row are what it costs there
lower_row : BranchCosts → ℕ → Bool
lower_row d number = agree_below (is_lower (costs_of (Cost number, Absent)) (get_or FIRST_COSTS number d)) (λ _. true) 64

higher_row : BranchCosts → ℕ → Bool
higher_row d number = agree_below (is_higher (costs_of (Cost number, Absent)) (get_or FIRST_COSTS number d)) (λ _. true) 64

-- so of all rows
in_table : (mark : Soft) (d : BranchCosts) → IsMark mark → AreBranchCosts (costs_of (mark, Absent)) (get_or FIRST_COSTS (place_in_costs mark) d)
unfolding lower_row higher_row is_lower is_higher price parity_a parity_b earlier
in_table Absent d is = are_branch_costs _ _ refl refl
in_table (Cost number) d is =
    are_branch_costs _ _ (agree_below_at (lower_row d) (λ _. true) 16 number refl (omega arith)) (agree_below_at (higher_row d) (λ _. true) 16 number refl (omega arith))

pub returns : goal.returns
returns c = rw c.place_in_costs.ensures.place (in_table c.args.mark _ c.requires)
