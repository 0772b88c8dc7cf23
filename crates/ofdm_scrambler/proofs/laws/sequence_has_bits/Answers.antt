use Rattle.ofdm_scrambler.proofs.LastSeven.{IsBit-scrambler_bit}
use Rattle.ofdm_scrambler.proofs.laws.sequence_has_bits.Goals as goal

pub returns : goal.returns
returns c = IsBit-scrambler_bit
