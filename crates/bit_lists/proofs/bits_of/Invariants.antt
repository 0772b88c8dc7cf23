use Rattle.std.proofs.Common.{◌≡◌, ◌*◌, take, vec_len}
use Rattle.std.specs.List.{flat_map}
use Rattle.bit_lists.specs.Bits.{AreBits, bits_of_octet}
use Rattle.bit_lists.proofs.bits_of.Given as goal

abbrev pub invariant-loop-byte : goal.invariant-loop-byte
invariant-loop-byte l = record {
  value : l.bits.items ≡ flat_map bits_of_octet (take l.byte-index l.bytes);
  bits : AreBits l.bits.items;
  len : vec_len l.bits ≡ 8 * l.byte-index;
}
