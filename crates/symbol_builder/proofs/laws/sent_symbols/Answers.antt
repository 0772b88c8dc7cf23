use Rattle.symbol_builder.proofs.SentSymbols.{near_symbol, small_symbol}
use Rattle.symbol_builder.proofs.laws.sent_symbols.Goals as goal

pub returns : goal.returns
returns c = record { near = near_symbol; within = small_symbol }
