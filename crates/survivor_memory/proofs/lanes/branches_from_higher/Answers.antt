use Rattle.std.proofs.Common.{◌≡◌, if◌then◌else◌, ◌==◌, get_or, ◌∙◌, arith}
use Rattle.survivor_memory.specs.declared.lanes.TheConstants.{A_FROM_LOWER, B_FROM_LOWER}
use Rattle.survivor_memory.proofs.Branches.{a_from_higher, b_from_higher, price_from_higher, IsBit-a_from_lower, IsBit-b_from_lower}
use Rattle.survivor_memory.proofs.ByLanes.{sum_lane}
use Rattle.survivor_memory.proofs.lanes.branches_from_higher.Goals as goal

pub returns : goal.returns
returns c = λ s h.
    let costs = c.args.costs in
    let first : get_or c.chosen-first.result s 0 ≡ (if get_or A_FROM_LOWER s 0 == 0 then costs.first_one else costs.first_zero) = c.chosen-first.ensures s h in
    let second : get_or c.chosen-second.result s 0 ≡ (if get_or B_FROM_LOWER s 0 == 0 then costs.second_one else costs.second_zero) = c.chosen-second.ensures s h in
    sum_lane c.chosen-first.result c.chosen-second.result s (omega arith) (omega arith) h
    ∙ rw (← a_from_higher s h, ← b_from_higher s h)
    (price_from_higher costs (get_or A_FROM_LOWER s 0) (get_or B_FROM_LOWER s 0) (get_or c.chosen-first.result s 0) (get_or c.chosen-second.result s 0) c.requires (IsBit-a_from_lower s h) (IsBit-b_from_lower s h) first second)
