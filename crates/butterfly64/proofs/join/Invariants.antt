use Rattle.std.proofs.Common.{◌≡◌, ℕ, ◌*◌, ◌<◌, ◌≤◌}
use Rattle.fixed_complex.specs.Pairs.{plus, minus, scaled_product}
use Rattle.fixed_complex.specs.Turns.{turn_at}
use Rattle.fixed_complex.specs.PairLists.{entry}
use Rattle.butterfly64.proofs.join.Given as goal

-- what is done so far, and what is left
abbrev pub invariant-loop-j : goal.invariant-loop-j
invariant-loop-j l = record {
  evens_done : (k : ℕ) → k < l.j → entry l.evens k ≡ plus (entry l.fn.evens k) (scaled_product (turn_at (l.step * k)) (entry l.fn.odds k));
  odds_done : (k : ℕ) → k < l.j → entry l.odds k ≡ minus (entry l.fn.evens k) (scaled_product (turn_at (l.step * k)) (entry l.fn.odds k));
  evens_left : (k : ℕ) → l.j ≤ k → entry l.evens k ≡ entry l.fn.evens k;
  odds_left : (k : ℕ) → l.j ≤ k → entry l.odds k ≡ entry l.fn.odds k;
}
