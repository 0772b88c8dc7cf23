use Rattle.std.proofs.Common.{◌≡◌, ◌*◌}
use Rattle.fixed_complex.specs.Laws.{sum_below}
use Rattle.fixed_complex.specs.Pairs.{times}
use Rattle.fixed_complex.specs.Turns.{turn_at}
use Rattle.fixed_complex.specs.PairLists.{entry}
use Rattle.plain_waves.proofs.plain_sum.Given as goal

abbrev pub invariant-loop-bin : goal.invariant-loop-bin
invariant-loop-bin l = l.sum ≡ sum_below l.bin (λ c. times (entry l.carriers c) (turn_at (c * l.n)))
