use Rattle.std.proofs.Common.{arith}
use Rattle.butterfly64.specs.Lanes.{lane}
use Rattle.butterfly64.proofs.EightLanes.{joined_of_parts, turns_within_eight}
use Rattle.butterfly64.proofs.eights.join_one_apart.Goals as goal

pub returns : goal.returns
returns c = λ l h. joined_of_parts 0 l (lane c.args.x.now) _ _ _ _ _ _ (c.one_apart.ensures.low l h) (c.one_apart.ensures.high l h) (turns_within_eight 0 (omega arith) l h)
    (c.joined_lanes.ensures.sums l h) (c.joined_lanes.ensures.differences l h) (c.mixed_by_one.ensures l h)
