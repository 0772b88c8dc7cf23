use Rattle.std.proofs.Common.{arith}
use Rattle.lane_kernels.proofs.WordLanes.{even_biases_fit, odd_biases_fit, even_casts_fit, odd_casts_fit, pairs_fit, pairs_are}
use Rattle.lane_kernels.proofs.lanes.pair_sums.Goals as goal

pub overflow_add-even : goal.overflow_add-even
overflow_add-even c = even_biases_fit c.args.products (omega arith) c.requires

pub overflow_add-odd : goal.overflow_add-odd
overflow_add-odd c = odd_biases_fit c.args.products (omega arith) c.requires

pub overflow_cast-result : goal.overflow_cast-result
overflow_cast-result c = even_casts_fit c.args.products (omega arith) c.requires

pub overflow_cast-result-2 : goal.overflow_cast-result-2
overflow_cast-result-2 c = odd_casts_fit c.args.products (omega arith) c.requires

pub overflow_add-result : goal.overflow_add-result
overflow_add-result c = pairs_fit c.args.products (omega arith) c.requires

pub returns : goal.returns
returns c = pairs_are c.args.products (omega arith) c.requires
