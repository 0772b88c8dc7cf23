use Rattle.lane_kernels.proofs.WordLanes.{ones_of_16_bits, parts_of, part_sums_fit, raises_fit, raised_casts_fit, raised_are}
use Rattle.lane_kernels.proofs.products.in_phase.Goals as goal

pub products-parts-requires-clause-y : goal.products-parts-requires-clause-y
products-parts-requires-clause-y c = ones_of_16_bits

pub overflow_add-result : goal.overflow_add-result
overflow_add-result c = part_sums_fit c.args.x c.products-parts.result c.requires (parts_of c.args.x c.products-parts.result c.products-parts.ensures)

pub overflow_add-result-2 : goal.overflow_add-result-2
overflow_add-result-2 c = raises_fit c.args.x c.products-parts.result c.requires (parts_of c.args.x c.products-parts.result c.products-parts.ensures)

pub overflow_cast-result : goal.overflow_cast-result
overflow_cast-result c = raised_casts_fit c.args.x c.products-parts.result c.requires (parts_of c.args.x c.products-parts.result c.products-parts.ensures)

pub returns : goal.returns
returns c = raised_are c.args.x c.products-parts.result c.requires (parts_of c.args.x c.products-parts.result c.products-parts.ensures)
