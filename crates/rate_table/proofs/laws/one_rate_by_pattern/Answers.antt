use Rattle.rate_table.proofs.ByRate.{one_by_pattern, pattern_fits}
use Rattle.rate_table.proofs.laws.one_rate_by_pattern.Goals as goal

pub returns : goal.returns
returns c = record { one = one_by_pattern; four_bits = pattern_fits }
