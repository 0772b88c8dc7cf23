use Rattle.bit_lists.specs.Bits.{AreBits}
use Rattle.run_rows.proofs.receive_tests.header_bits.Given as goal

abbrev pub invariant-loop-place : goal.invariant-loop-place
invariant-loop-place l = AreBits l.bits
