use Rattle.std.proofs.Common.{◌≡◌, ℕ, ◌+◌, ◌<◌, ◌≤◌, length}
use Rattle.fixed_complex.specs.Pairs.{plus, minus, scaled_product}
use Rattle.butterfly64.specs.declared.lane_turns.TheConstants.{TURNS}
use Rattle.butterfly64.specs.Lanes.{lane, eight_in}
use Rattle.butterfly64.proofs.many_eights.join_eights.Given as goal

-- what is done so far, and what is left
abbrev pub invariant-loop-c : goal.invariant-loop-c
invariant-loop-c l = record {
  evens_done : (k m : ℕ) → k < l.c → m < 8 → lane (eight_in l.evens k) m ≡ plus (lane (eight_in l.fn.evens k) m) (scaled_product (lane (eight_in TURNS (length l.fn.evens + 2 + k)) m) (lane (eight_in l.fn.odds k) m));
  odds_done : (k m : ℕ) → k < l.c → m < 8 → lane (eight_in l.odds k) m ≡ minus (lane (eight_in l.fn.evens k) m) (scaled_product (lane (eight_in TURNS (length l.fn.evens + 2 + k)) m) (lane (eight_in l.fn.odds k) m));
  evens_left : (k : ℕ) → l.c ≤ k → eight_in l.evens k ≡ eight_in l.fn.evens k;
  odds_left : (k : ℕ) → l.c ≤ k → eight_in l.odds k ≡ eight_in l.fn.odds k;
}
