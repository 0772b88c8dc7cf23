use Rattle.std.proofs.Common.{◌∙◌, arith}
use Rattle.lane_kernels.proofs.Holding.{casts_fit, eight_held, numbers_held}
use Rattle.lane_kernels.proofs.lanes.held_numbers.Goals as goal

pub overflow_cast-result : goal.overflow_cast-result
overflow_cast-result c = casts_fit c.args.numbers 8 c.requires (omega arith)

pub returns : goal.returns
returns c = numbers_held c.args.numbers 8 c.requires (omega arith) ∙ eight_held c.args.numbers (omega arith)
