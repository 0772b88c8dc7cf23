use Rattle.std.proofs.Common.{map, ◌∷◌, [], arith}
use Rattle.std.proofs.lemmas.List.{length-map, map-append}
use Rattle.viterbi_lanes.specs.Marks.{costs_of}
use Rattle.viterbi_lanes.proofs.Distances.{marks_cost_at_most_2, pair_costs_at_most_2}
use Rattle.viterbi_lanes.proofs.Trellis.step.Goals as goal

pub returns-clause-appended : goal.returns-clause-appended
returns-clause-appended c = λ marks stands.
    rw (map-append costs_of marks ((c.args.a, c.args.b) ∷ []))
    (c.step.ensures.appended (map costs_of marks) (costs_of (c.args.a, c.args.b)) c.branch_costs.ensures (pair_costs_at_most_2 c.args.a c.args.b) (rw (← c.self.view_is) at stands))

pub returns-clause-differ : goal.returns-clause-differ
returns-clause-differ c = λ marks stands some.
    c.step.ensures.differ (map costs_of marks) 2 stands (marks_cost_at_most_2 marks) (omega (arith, length-map marks costs_of))
