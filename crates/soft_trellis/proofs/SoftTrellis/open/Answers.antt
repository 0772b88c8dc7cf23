use Rattle.soft_trellis.proofs.Marks.{stands_for_none}
use Rattle.soft_trellis.proofs.SoftTrellis.open.Goals as goal

pub returns-clause-stands : goal.returns-clause-stands
returns-clause-stands c = stands_for_none _ (c.in_ok-open.ensures.holds 30)
