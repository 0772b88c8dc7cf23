use Rattle.bit_lists.specs.Bits.{AreBits}
use Rattle.signal_field.proofs.tests.bits.Given as goal

abbrev pub invariant-loop-place : goal.invariant-loop-place
invariant-loop-place l = AreBits l.bits
