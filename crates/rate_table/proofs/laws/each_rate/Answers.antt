use Rattle.rate_table.proofs.ByRate.{has_index}
use Rattle.rate_table.proofs.laws.each_rate.Goals as goal

pub returns : goal.returns
returns c = has_index
