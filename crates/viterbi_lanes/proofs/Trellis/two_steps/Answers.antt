use Rattle.std.proofs.Common.{map, ◌∷◌, []}
use Rattle.std.proofs.lemmas.List.{map-append}
use Rattle.viterbi_lanes.specs.Marks.{costs_of}
use Rattle.viterbi_lanes.proofs.Distances.{marks_cost_at_most_2}
use Rattle.viterbi_lanes.proofs.Trellis.two_steps.Goals as goal

pub returns-clause-appended : goal.returns-clause-appended
returns-clause-appended c = λ marks stands.
    rw (map-append costs_of marks (c.args.first ∷ c.args.second ∷ []))
    (c.two_steps.ensures.appended (map costs_of marks) (costs_of c.args.first) (costs_of c.args.second) c.branch_costs.ensures c.branch_costs-2.ensures (marks_cost_at_most_2 (c.args.first ∷ c.args.second ∷ [])) (rw (← c.self.view_is) at stands))
