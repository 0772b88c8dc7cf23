use Rattle.std.proofs.Common.{List, ℤ, ap, ◌∙◌, arith}
use Rattle.fixed_complex.specs.Numbers.{number_at}
use Rattle.lane_kernels.specs.Kernels.{held}
use Rattle.lane_kernels.specs.Lanes.{eight}
use Rattle.lane_kernels.proofs.Holding.{eight_sums, sums_fit, sums_of_32_bits}
use Rattle.lane_kernels.proofs.saturation.add_lanes.Goals as goal

pub overflow_add-x : goal.overflow_add-x
overflow_add-x c = sums_fit c.args.x c.args.y c.requires.x c.requires.y

pub held_numbers-requires : goal.held_numbers-requires
held_numbers-requires c =
    sums_of_32_bits c.args.x c.args.y _ c.requires.x c.requires.y (eight_sums c.args.x c.args.y c.requires.x c.requires.y (omega arith) (omega arith))

pub returns : goal.returns
returns c =
    c.held_numbers.ensures
    ∙ ap (λ (s : List ℤ). eight (λ n. held (number_at s n))) (eight_sums c.args.x c.args.y c.requires.x c.requires.y (omega arith) (omega arith))
