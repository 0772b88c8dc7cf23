use Rattle.std.proofs.Common.{map}
use Rattle.soft_trellis.specs.Marks.{costs_of}
use Rattle.soft_trellis.proofs.Marks.{stands_for_none}
use Rattle.soft_trellis.proofs.SoftTrellis.finish.Goals as goal

pub returns-clause-stands : goal.returns-clause-stands
returns-clause-stands c = stands_for_none _ (c.finish.ensures.holds 30)

pub returns-clause-cheapest : goal.returns-clause-cheapest
returns-clause-cheapest c = λ marks stands. c.finish.ensures.nearest (map costs_of marks) 30 (rw (← c.self.view_is) at stands.holds)
