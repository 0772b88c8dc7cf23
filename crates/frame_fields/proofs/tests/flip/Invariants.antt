use Rattle.bit_lists.specs.Bits.{AreBits}
use Rattle.frame_fields.proofs.tests.flip.Given as goal

abbrev pub invariant-loop-place : goal.invariant-loop-place
invariant-loop-place l = AreBits l.bits
