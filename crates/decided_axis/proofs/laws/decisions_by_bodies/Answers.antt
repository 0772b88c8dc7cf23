use Rattle.decided_axis.proofs.Bodies.{decided_by_bodies}
use Rattle.decided_axis.proofs.laws.decisions_by_bodies.Goals as goal

pub returns : goal.returns
returns c = decided_by_bodies
