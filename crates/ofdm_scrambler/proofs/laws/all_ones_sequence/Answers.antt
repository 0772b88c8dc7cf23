use Rattle.std.proofs.Common.{refl}
use Rattle.ofdm_scrambler.specs.Sequence.{from_minus_seven}
use Rattle.ofdm_scrambler.proofs.laws.all_ones_sequence.Goals as goal

pub returns : goal.returns
unfolding from_minus_seven
returns c = refl
