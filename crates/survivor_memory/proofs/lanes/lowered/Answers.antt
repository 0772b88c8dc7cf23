use Rattle.survivor_memory.proofs.ByLanes.{lowered_lane_below, lowered_lane_full}
use Rattle.survivor_memory.proofs.lanes.lowered.Goals as goal

pub returns : goal.returns
returns c = record {
  within = c.requires;
  less = λ s h below. lowered_lane_below c.args.entries c.args.by s c.fits-entries.0 h below (c.requires s h);
  kept = λ s h full. lowered_lane_full c.args.entries c.args.by s c.fits-entries.0 h full;
}
