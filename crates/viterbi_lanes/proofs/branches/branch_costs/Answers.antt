use Rattle.std.proofs.Common.{List, get_or, refl}
use Rattle.conv_code.specs.Code.{earlier, parity_a, parity_b}
use Rattle.survivor_memory.specs.declared.BranchCosts.{BranchCosts}
use Rattle.survivor_memory.specs.Costs.{AreBranchCosts, price}
use Rattle.survivor_memory.proofs.Tables.{are_branch_costs, is_higher, is_lower}
use Rattle.viterbi_lanes.specs.declared.branches.TheConstants.{BRANCH_COSTS}
use Rattle.viterbi_lanes.specs.declared.Mark.{Mark}
use Rattle.viterbi_lanes.specs.declared.Mark.TheVariants.{Zero, One, Absent}
use Rattle.viterbi_lanes.specs.Marks.{costs_of, place_in_costs}
use Rattle.viterbi_lanes.proofs.branches.branch_costs.Goals as goal

-- each row is what its pair costs
in_table : (a b : Mark) (d : List BranchCosts) (e : BranchCosts) → AreBranchCosts (costs_of (a, b)) (get_or (get_or BRANCH_COSTS (place_in_costs a) d) (place_in_costs b) e)
unfolding is_lower is_higher price parity_a parity_b earlier
in_table Zero Zero d e = are_branch_costs _ _ refl refl
in_table Zero One d e = are_branch_costs _ _ refl refl
in_table Zero Absent d e = are_branch_costs _ _ refl refl
in_table One Zero d e = are_branch_costs _ _ refl refl
in_table One One d e = are_branch_costs _ _ refl refl
in_table One Absent d e = are_branch_costs _ _ refl refl
in_table Absent Zero d e = are_branch_costs _ _ refl refl
in_table Absent One d e = are_branch_costs _ _ refl refl
in_table Absent Absent d e = are_branch_costs _ _ refl refl

pub returns : goal.returns
returns c = rw (c.place_in_costs.ensures, c.place_in_costs-2.ensures) (in_table c.args.a c.args.b _ _)
