use Rattle.soft_trellis.proofs.Marks.{stands_for_none}
use Rattle.soft_trellis.proofs.SoftTrellis.start.Goals as goal

pub returns-clause-stands : goal.returns-clause-stands
returns-clause-stands c = stands_for_none _ (c.start.ensures.holds 30)
