use Rattle.std.proofs.Common.{rules}
use Rattle.carrier_bins.proofs.Tables.{carrier-good, carrier-distinct}
use Rattle.carrier_bins.proofs.laws.carriers_of_data.Goals as goal

pub returns-clause-least : goal.returns-clause-least
returns-clause-least c = λ k below. (carrier-good k below).least

pub returns-clause-most : goal.returns-clause-most
returns-clause-most c = λ k below. (carrier-good k below).most

pub returns-clause-data : goal.returns-clause-data
returns-clause-data c = λ k below. let h = (carrier-good k below).data_here in search rules

pub returns-clause-distinct : goal.returns-clause-distinct
returns-clause-distinct c = carrier-distinct
