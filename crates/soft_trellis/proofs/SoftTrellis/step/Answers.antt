use Rattle.std.proofs.Common.{map, arith}
use Rattle.std.proofs.lemmas.List.{length-map}
use Rattle.soft_trellis.specs.declared.Soft.TheVariants.{Absent}
use Rattle.soft_trellis.specs.Marks.{costs_of}
use Rattle.soft_trellis.proofs.Marks.{both_at_most_30, both_marks, marks_cost_at_most_30, stands_pushed}
use Rattle.soft_trellis.proofs.SoftTrellis.step.Goals as goal

pub returns-clause-appended : goal.returns-clause-appended
returns-clause-appended c = λ marks stands.
    let a = c.args.a in
    let b = c.args.b in
    let pushed = c.step_of_two.ensures.appended in
    stands_pushed _ _ marks a b c.requires.first c.requires.second (rw (← c.self.view_is) at stands)
    (λ pairs held. rw (both_marks a b) at (pushed pairs (costs_of (a, Absent)) (costs_of (Absent, b)) c.first_costs.ensures c.second_costs.ensures (both_at_most_30 a b c.requires.first c.requires.second) held))

pub returns-clause-differ : goal.returns-clause-differ
returns-clause-differ c = λ marks stands some.
    c.step_of_two.ensures.differ (map costs_of marks) 30 stands.holds (marks_cost_at_most_30 marks stands.are_marks) (omega (arith, length-map marks costs_of))
