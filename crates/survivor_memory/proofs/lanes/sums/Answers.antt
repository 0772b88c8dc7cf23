use Rattle.survivor_memory.proofs.ByLanes.{held_sum_lane, byte_lane}
use Rattle.survivor_memory.proofs.lanes.sums.Goals as goal

pub returns : goal.returns
returns c = λ s h. held_sum_lane c.args.entries c.args.costs s c.fits-entries.0 c.fits-costs.0 h (byte_lane c.args.entries s c.fits-entries.1 c.fits-entries.0 h) (byte_lane c.args.costs s c.fits-costs.1 c.fits-costs.0 h)
