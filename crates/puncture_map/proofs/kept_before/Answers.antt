use Rattle.puncture_map.proofs.Counts.{div_ceil-period, kept_count-by_periods}
use Rattle.puncture_map.proofs.kept_before.Goals as goal

pub returns-clause-count : goal.returns-clause-count
returns-clause-count c =
    let counted = div_ceil-period c.args.rate c.args.steps in
    let law = kept_count-by_periods c.args.rate c.args.steps in
    cc
