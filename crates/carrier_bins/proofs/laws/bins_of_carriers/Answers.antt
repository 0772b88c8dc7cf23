use Rattle.carrier_bins.proofs.Tables.{bin-lt, bin-distinct}
use Rattle.carrier_bins.proofs.laws.bins_of_carriers.Goals as goal

pub returns-clause-within : goal.returns-clause-within
returns-clause-within c = bin-lt

pub returns-clause-distinct : goal.returns-clause-distinct
returns-clause-distinct c = bin-distinct
