use Rattle.std.proofs.Common.{◌≡◌, ℕ, ◌<◌, length}
use Rattle.fixed_complex.specs.PairLists.{entry}
use Rattle.butterfly64.specs.MirrorOrder.{mirror_of}
use Rattle.butterfly64.proofs.in_mirror_order.Given as goal

abbrev pub invariant-loop-n : goal.invariant-loop-n
invariant-loop-n l = (length l.mirrored ≡ 64) × ((k : ℕ) → k < l.n → entry l.mirrored k ≡ entry l.x (mirror_of 6 k))
