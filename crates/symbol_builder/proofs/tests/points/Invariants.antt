use Rattle.fixed_complex.specs.PairLists.{PairsWithin}
use Rattle.symbol_builder.proofs.tests.points.Given as goal

abbrev pub invariant-loop-k : goal.invariant-loop-k
invariant-loop-k l = PairsWithin 700 l.points
