use Rattle.std.proofs.lemmas.List.Elements.{All-set}
use Rattle.bit_lists.specs.Bits.{IsBit}
use Rattle.frame_fields.proofs.tests.flip.Goals.{then-place-bits, else-place-bits}
use Rattle.frame_fields.proofs.tests.flip.Goals as goal

pub loop-place-preserved : goal.loop-place-preserved
loop-place-preserved c = elim c.if-place-bits.branch [
  | then-place-bits w ↦ rw w.bits-is (All-set IsBit c.loop-place.bits _ w.other.result w.other.ensures c.loop-place.invariant)
  | else-place-bits w ↦ rw w.bits-is c.loop-place.invariant
]
