use Rattle.ofdm_scrambler.proofs.Fronts.{one_number, some_number}
use Rattle.ofdm_scrambler.proofs.laws.fronts_name_numbers.Goals as goal

pub returns-clause-one : goal.returns-clause-one
returns-clause-one c = one_number

pub returns-clause-some : goal.returns-clause-some
returns-clause-some c = some_number
