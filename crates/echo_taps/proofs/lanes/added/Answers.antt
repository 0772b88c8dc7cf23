use Rattle.std.proofs.Common.{arith}
use Rattle.echo_taps.proofs.SumLanes.{neighbours_fit, sums_are, sums_fit}
use Rattle.echo_taps.proofs.lanes.added.Goals as goal

pub overflow_add-result : goal.overflow_add-result
overflow_add-result c = neighbours_fit c.args.products (omega arith) c.requires.products

pub overflow_add-result-2 : goal.overflow_add-result-2
overflow_add-result-2 c = sums_fit c.args.sums c.args.products (omega arith) (omega arith) c.requires.sums c.requires.products

pub returns : goal.returns
returns c = sums_are c.args.sums c.args.products (omega arith) (omega arith) c.requires.sums c.requires.products
