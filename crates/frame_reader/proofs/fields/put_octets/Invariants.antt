use Rattle.std.proofs.Common.{◌≡◌, ◌*◌, map, take}
use Rattle.std.specs.List.{range_with_len}
use Rattle.bit_lists.specs.Bits.{octet_at}
use Rattle.frame_reader.proofs.fields.put_octets.Given as goal

abbrev pub invariant-loop-k : goal.invariant-loop-k
invariant-loop-k l = take l.k l.octets ≡ map (λ k. octet_at l.bits (8 * k)) (range_with_len 0 l.k)
