use Rattle.rate_table.proofs.ByRate.{coded_bits_by_modulation, flip_bound_by_code_rate}
use Rattle.rate_table.proofs.laws.columns_of_a_rate.Goals as goal

pub returns : goal.returns
returns c = record { coded_bits = coded_bits_by_modulation; flip_bound = flip_bound_by_code_rate }
