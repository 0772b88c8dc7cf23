use Rattle.ofdm_scrambler.proofs.LastSeven.{scrambled_twice}
use Rattle.ofdm_scrambler.proofs.laws.scrambling_is_undone.Goals as goal

pub returns : goal.returns
returns c = scrambled_twice
