use Rattle.std.proofs.Common.{◌^◌, sym, ◌∙◌, arith}
use Rattle.fixed_complex.specs.Numbers.{number_at}
use Rattle.lane_kernels.proofs.FourLanes.{four_fits, four_kept, four_total, four_total-le}
use Rattle.lane_kernels.proofs.lanes.total.Goals as goal

pub overflow_add-result-3 : goal.overflow_add-result-3
overflow_add-result-3 c =
    let z = number_at c.args.sums.now in
    four_fits (z 0) (z 1) (z 2) (z 3) (2 ^ 55) (omega arith) (c.requires 0) (c.requires 1) (c.requires 2) (c.requires 3)

pub returns-clause-total : goal.returns-clause-total
returns-clause-total c =
    let z = number_at c.args.sums.now in
    four_kept (z 0) (z 1) (z 2) (z 3) (2 ^ 55) (omega arith) (c.requires 0) (c.requires 1) (c.requires 2) (c.requires 3)
    ∙ sym (four_total c.args.sums.now (omega arith))

pub returns-clause-within : goal.returns-clause-within
returns-clause-within c = λ bound within. rw (returns-clause-total c) (four_total-le c.args.sums.now bound (omega arith) within)
