use Rattle.std.proofs.Common.{◌^◌, arith}
use Rattle.std.proofs.lemmas.Int.{to_z-of_z}
use Rattle.fixed_complex.proofs.PairLists.{within-set, within-zeros}
use Rattle.butterfly64.proofs.tests.spread_entries.Goals as goal

pub loop-n-init : goal.loop-n-init
loop-n-init c = within-zeros (2 ^ 30) 64

pub loop-n-preserved : goal.loop-n-preserved
loop-n-preserved c = within-set (2 ^ 30) _ _ _ c.loop-n.invariant (record { re = grind (arith, to_z-of_z, c.spread.ensures); im = grind (arith, to_z-of_z, c.spread-in-loop-n.ensures) })
