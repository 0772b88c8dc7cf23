use Rattle.decided_axis.proofs.Bodies.{estimated_by_bodies}
use Rattle.decided_axis.proofs.laws.estimate_by_bodies.Goals as goal

pub returns : goal.returns
returns c = estimated_by_bodies
