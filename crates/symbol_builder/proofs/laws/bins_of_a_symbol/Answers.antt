use Rattle.symbol_builder.proofs.Bins.{pilot_there, point_there}
use Rattle.symbol_builder.proofs.laws.bins_of_a_symbol.Goals as goal

pub returns-clause-data : goal.returns-clause-data
returns-clause-data c = point_there

pub returns-clause-others : goal.returns-clause-others
returns-clause-others c = pilot_there
