use Rattle.std.proofs.Common.{arith}
use Rattle.butterfly64.specs.Lanes.{lane}
use Rattle.butterfly64.proofs.EightLanes.{joined_of_parts, turns_within_eight}
use Rattle.butterfly64.proofs.eights.join_four_apart.Goals as goal

pub returns : goal.returns
returns c = λ l h. joined_of_parts 2 l (lane c.args.x.now) _ _ _ _ _ _ (c.four_apart.ensures.low l h) (c.four_apart.ensures.high l h) (turns_within_eight 2 (omega arith) l h)
    (c.joined_lanes.ensures.sums l h) (c.joined_lanes.ensures.differences l h) (c.mixed_by_four.ensures l h)
