use Rattle.std.proofs.Common.{◌≡◌, ◌*◌, ◌^◌}
use Rattle.fixed_complex.specs.Laws.{sum_below}
use Rattle.fixed_complex.specs.PairLists.{entry}
use Rattle.fixed_complex.specs.Pairs.{IsWithin, times}
use Rattle.fixed_complex.specs.Samples.{pair_at}
use Rattle.echo_taps.specs.Echoes.{earlier}
use Rattle.echo_taps.proofs.echoes.sum_at.Given as goal

abbrev pub invariant-loop-late : goal.invariant-loop-late
invariant-loop-late l = record {
  so_far : l.sum ≡ sum_below l.late (λ late. times (entry l.pairs late) (earlier (pair_at l.samples) l.place late));
  within : IsWithin (l.late * 2 ^ 31) l.sum;
}
