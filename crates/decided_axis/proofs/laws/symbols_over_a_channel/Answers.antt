use Rattle.decided_axis.proofs.Symbols.{symbol_decided}
use Rattle.decided_axis.proofs.laws.symbols_over_a_channel.Goals as goal

pub returns : goal.returns
returns c = symbol_decided
