use Rattle.std.proofs.Common.{refl}
use Rattle.bit_lists.specs.Bits.{bits_of_octet}
use Rattle.ofdm_scrambler.specs.Sequence.{from_minus_seven}
use Rattle.conv_code.specs.Code.{earlier, parity_a, parity_b}
use Rattle.interleave_two.specs.Place.{interleaved_place, source_of}
use Rattle.data_field.proofs.examples.interleaved_at_6.Goals as goal

pub returns : goal.returns
unfolding bits_of_octet from_minus_seven earlier parity_a parity_b interleaved_place source_of
returns c = refl
