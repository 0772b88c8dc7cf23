use Rattle.frame_lists.proofs.Growing.{bounds_may_grow}
use Rattle.frame_lists.proofs.laws.bounds_may_grow.Goals as goal

pub returns : goal.returns
returns c = bounds_may_grow
