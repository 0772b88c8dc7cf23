use Rattle.std.proofs.Common.{◌≡◌, ◌+◌, map, take}
use Rattle.bit_lists.proofs.put_text.Given as goal

abbrev pub invariant-loop-bit : goal.invariant-loop-bit
invariant-loop-bit l = l.text.items ≡ map (λ bit. 48 + bit) (take l.bit-index l.bits)
