use Rattle.std.proofs.Common.{◌^◌, arith}
use Rattle.std.proofs.lemmas.Int.{to_z-of_z}
use Rattle.fixed_complex.proofs.PairLists.{within-set, within-zeros}
use Rattle.fixed_complex.proofs.PairSizes.{size-within, within_wider}
use Rattle.butterfly64.proofs.tests.small_entries.Goals as goal

pub loop-n-init : goal.loop-n-init
loop-n-init c = within-zeros (2 ^ 23) 64

pub loop-n-preserved : goal.loop-n-preserved
loop-n-preserved c = within-set (2 ^ 23) _ _ _ c.loop-n.invariant (record { re = grind (arith, to_z-of_z, c.small.ensures); im = grind (arith, to_z-of_z, c.small-in-loop-n.ensures) })

pub returns-clause-within : goal.returns-clause-within
returns-clause-within c = record { each = λ n lt. within_wider (2 ^ 23) (2 ^ 30) _ (omega arith) (c.loop-n.invariant.each n lt) }

pub returns-clause-sizes : goal.returns-clause-sizes
returns-clause-sizes c = record { each = λ n lt. size-within (2 ^ 23) _ (c.loop-n.invariant.each n lt) }
