use Rattle.std.proofs.Common.{rules}
use Rattle.fixed_complex.proofs.PairLists.{of_size-within}
use Rattle.butterfly64.proofs.InPlace.{down_of_mirrored}
use Rattle.butterfly64.proofs.down_wide.Goals as goal

pub down_eights-requires-clause-sizes : goal.down_eights-requires-clause-sizes
down_eights-requires-clause-sizes c = rw c.eights-sums.ensures (of_size-within c.args.x.now c.requires)

pub returns : goal.returns
returns c = down_of_mirrored c.args.x.now c.pairs.result c.in_mirror_order.result (search rules) (record { each = rw c.pairs.ensures (rw c.eights-sums.ensures at c.down_eights.ensures) }) c.in_mirror_order.ensures
