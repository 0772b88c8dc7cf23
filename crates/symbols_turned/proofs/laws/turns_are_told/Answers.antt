use Rattle.symbols_turned.proofs.Decided.{turn_is_told}
use Rattle.symbols_turned.proofs.laws.turns_are_told.Goals as goal

pub returns : goal.returns
returns c = turn_is_told
