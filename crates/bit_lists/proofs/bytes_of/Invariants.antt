use Rattle.std.proofs.Common.{◌≡◌, ◌*◌, map}
use Rattle.std.specs.List.{range_with_len}
use Rattle.bit_lists.specs.Bits.{octet_at}
use Rattle.bit_lists.proofs.bytes_of.Given as goal

abbrev pub invariant-loop-k : goal.invariant-loop-k
invariant-loop-k l = l.items.items ≡ map (λ k. octet_at l.bits (8 * k)) (range_with_len 0 l.k)
