use Rattle.symbols_turned.proofs.Decided.{decided_turned}
use Rattle.symbols_turned.proofs.laws.turned_symbols_are_decided.Goals as goal

pub returns : goal.returns
returns c = decided_turned
