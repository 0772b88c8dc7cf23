use Rattle.survivor_memory.proofs.ByLanes.{first_half_lane, second_half_lane}
use Rattle.survivor_memory.proofs.lanes.predecessors.Goals as goal

pub returns-clause-lower : goal.returns-clause-lower
returns-clause-lower c = λ s h. first_half_lane c.args.entries s c.fits-entries.0 h

pub returns-clause-higher : goal.returns-clause-higher
returns-clause-higher c = λ s h. second_half_lane c.args.entries s c.fits-entries.0 h
