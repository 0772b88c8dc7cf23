use Rattle.survivor_memory.proofs.ByLanes.{lesser_lane}
use Rattle.survivor_memory.proofs.lanes.lesser.Goals as goal

pub returns : goal.returns
returns c = λ s h. lesser_lane c.args.first c.args.second s c.fits-first.0 c.fits-second.0 h
