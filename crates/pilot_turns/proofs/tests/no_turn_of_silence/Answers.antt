use Rattle.std.proofs.Common.{◌^◌}
use Rattle.fixed_complex.proofs.PairLists.{within-zeros}
use Rattle.pilot_turns.proofs.tests.no_turn_of_silence.Goals as goal

pub pilot_turn-turn-requires : goal.pilot_turn-turn-requires
pilot_turn-turn-requires g c = within-zeros (2 ^ 22) 64
