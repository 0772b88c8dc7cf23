use Rattle.std.proofs.Common.{arith}
use Rattle.std.proofs.lemmas.Int.{to_z-of_z}
use Rattle.fixed_complex.proofs.PairLists.{within-set, within-zeros}
use Rattle.symbol_builder.proofs.tests.points.Goals as goal

pub loop-k-init : goal.loop-k-init
loop-k-init c = within-zeros 700 48

pub loop-k-preserved : goal.loop-k-preserved
loop-k-preserved c = within-set 700 _ _ _ c.loop-k.invariant (record { re = grind (arith, to_z-of_z, c.level.ensures); im = grind (arith, to_z-of_z, c.level-in-loop-k.ensures) })
