use Rattle.std.specs.Prelude.{ℕ, ◌^◌, ◌<◌}
use Rattle.fixed_complex.specs.PairLists.{entry}
use Rattle.fixed_complex.specs.Pairs.{IsWithin}
use Rattle.butterfly64.proofs.are_small.Given as goal

abbrev pub invariant-loop-n : goal.invariant-loop-n
invariant-loop-n l = l.bits < 2 ^ 24 → (k : ℕ) → k < l.n → IsWithin (2 ^ 23) (entry l.x k)
