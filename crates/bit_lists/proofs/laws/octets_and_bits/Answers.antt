use Rattle.bit_lists.proofs.EightBits.{bits_of_octets_of_bits, octets_of_bits_of_octets}
use Rattle.bit_lists.proofs.laws.octets_and_bits.Goals as goal

pub returns : goal.returns
returns c = record { octets = octets_of_bits_of_octets; bits = bits_of_octets_of_bits }
