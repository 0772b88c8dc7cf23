use Rattle.symbols_in_echoes.proofs.Symbols.{decided_in_echoes}
use Rattle.symbols_in_echoes.proofs.laws.echoed_symbols_are_decided.Goals as goal

pub returns : goal.returns
returns c = decided_in_echoes
