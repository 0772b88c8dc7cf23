use Rattle.std.proofs.Common.{◌≡◌, ℕ, ◌+◌, ◌<◌, ◌≤◌, length}
use Rattle.fixed_complex.specs.Pairs.{conjugate, plus, minus, scaled_product}
use Rattle.butterfly64.specs.declared.lane_turns.TheConstants.{TURNS}
use Rattle.butterfly64.specs.Lanes.{lane, eight_in}
use Rattle.butterfly64.proofs.many_eights.part_eights.Given as goal

-- what is done so far, and what is left
abbrev pub invariant-loop-c : goal.invariant-loop-c
invariant-loop-c l = record {
  first_done : (k m : ℕ) → k < l.c → m < 8 → lane (eight_in l.first k) m ≡ plus (lane (eight_in l.fn.first k) m) (lane (eight_in l.fn.last k) m);
  last_done : (k m : ℕ) → k < l.c → m < 8 → lane (eight_in l.last k) m ≡ scaled_product (conjugate (lane (eight_in TURNS (length l.fn.first + 2 + k)) m)) (minus (lane (eight_in l.fn.first k) m) (lane (eight_in l.fn.last k) m));
  first_left : (k : ℕ) → l.c ≤ k → eight_in l.first k ≡ eight_in l.fn.first k;
  last_left : (k : ℕ) → l.c ≤ k → eight_in l.last k ≡ eight_in l.fn.last k;
}
