use Rattle.symbols_in_noise.proofs.Symbols.{symbol_back}
use Rattle.symbols_in_noise.proofs.laws.symbols_are_decided.Goals as goal

pub returns : goal.returns
returns c = symbol_back
