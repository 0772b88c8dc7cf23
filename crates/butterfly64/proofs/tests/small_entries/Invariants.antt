use Rattle.std.proofs.Common.{◌^◌}
use Rattle.fixed_complex.specs.PairLists.{PairsWithin}
use Rattle.butterfly64.proofs.tests.small_entries.Given as goal

abbrev pub invariant-loop-n : goal.invariant-loop-n
invariant-loop-n l = PairsWithin (2 ^ 23) l.x
