use Rattle.rate_table.proofs.ByRate.{one_by_mbps}
use Rattle.rate_table.proofs.laws.one_rate_by_mbps.Goals as goal

pub returns : goal.returns
returns c = one_by_mbps
