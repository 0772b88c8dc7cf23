use Rattle.std.proofs.Common.{rules}
use Rattle.fixed_complex.proofs.PairLists.{of_size-within}
use Rattle.butterfly64.proofs.InPlace.{mirrored_sizes, up_of_mirrored}
use Rattle.butterfly64.proofs.up_wide.Goals as goal

pub up_eights-requires-clause-sizes : goal.up_eights-requires-clause-sizes
up_eights-requires-clause-sizes c =
    rw c.eights-sums.ensures (mirrored_sizes c.args.x.now _ c.told-x (search rules) c.in_mirror_order.ensures (of_size-within c.args.x.now c.requires))

pub returns : goal.returns
returns c = up_of_mirrored c.args.x.now c.in_mirror_order.result c.pairs.result (search rules) c.in_mirror_order.ensures (record { each = rw c.pairs.ensures (rw c.eights-sums.ensures at c.up_eights.ensures) })
