use Rattle.std.proofs.Common.{◌≡◌, length}
use Rattle.bit_lists.specs.Bits.{AreBits}
use Rattle.interleave_two.proofs.tests.bits.Given as goal

abbrev pub invariant-loop-place : goal.invariant-loop-place
invariant-loop-place l = (length l.bits ≡ 288) × AreBits l.bits
