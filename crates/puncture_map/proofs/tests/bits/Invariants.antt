use Rattle.std.proofs.Common.{◌≡◌, vec_len}
use Rattle.bit_lists.specs.Bits.{AreBits}
use Rattle.puncture_map.proofs.tests.bits.Given as goal

abbrev pub invariant-loop-character : goal.invariant-loop-character
invariant-loop-character l = (vec_len l.bits ≡ l.character-index) × AreBits l.bits.items
