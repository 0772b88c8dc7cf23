use Rattle.std.proofs.Common.{◌≡◌, ℕ, ◌*◌, ◌<◌, ◌≤◌}
use Rattle.fixed_complex.specs.Pairs.{conjugate, plus, minus, scaled_product}
use Rattle.fixed_complex.specs.Turns.{turn_at}
use Rattle.fixed_complex.specs.PairLists.{entry}
use Rattle.butterfly64.proofs.part.Given as goal

-- what is done so far, and what is left
abbrev pub invariant-loop-j : goal.invariant-loop-j
invariant-loop-j l = record {
  first_done : (k : ℕ) → k < l.j → entry l.first k ≡ plus (entry l.fn.first k) (entry l.fn.last k);
  last_done : (k : ℕ) → k < l.j → entry l.last k ≡ scaled_product (conjugate (turn_at (l.step * k))) (minus (entry l.fn.first k) (entry l.fn.last k));
  first_left : (k : ℕ) → l.j ≤ k → entry l.first k ≡ entry l.fn.first k;
  last_left : (k : ℕ) → l.j ≤ k → entry l.last k ≡ entry l.fn.last k;
}
