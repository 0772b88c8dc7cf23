use Rattle.std.proofs.Common.{◌≡◌, ◌*◌, ◌^◌, ◌≤◌}
use Rattle.std.specs.List.{range_with_len, sum_by}
use Rattle.fixed_complex.specs.Laws.{sum_below}
use Rattle.fixed_complex.specs.PairLists.{entry}
use Rattle.fixed_complex.specs.Pairs.{IsWithin, squared_size}
use Rattle.pilot_turns.specs.Pilots.{pilot_back, pilot_bin}
use Rattle.pilot_turns.proofs.pilots.pilot_turn.Given as goal

abbrev pub invariant-loop-k : goal.invariant-loop-k
invariant-loop-k l = record {
  back : l.sum ≡ sum_below l.k (pilot_back l.estimate l.symbol l.n);
  within : IsWithin (l.k * 2 ^ 46) l.sum;
  weight : l.weight ≡ sum_by (λ k. squared_size (entry l.estimate (pilot_bin k))) (range_with_len 0 l.k);
  most : l.weight ≤ l.k * 2 ^ 47;
}
