use Rattle.std.proofs.Common.{map}
use Rattle.viterbi_lanes.specs.Decisions.{marks_of}
use Rattle.viterbi_lanes.specs.Marks.{costs_of}
use Rattle.viterbi_lanes.proofs.Decisions.{found_again}
use Rattle.viterbi_lanes.proofs.Distances.{nearest_by_distance}
use Rattle.viterbi_lanes.proofs.Trellis.finish.Goals as goal

pub returns-clause-nearest : goal.returns-clause-nearest
returns-clause-nearest c = λ marks stands.
    nearest_by_distance marks c.finish.new.out c.finish.result (c.finish.ensures.nearest (map costs_of marks) 2 (rw (← c.self.view_is) at stands))

pub returns-clause-found_again : goal.returns-clause-found_again
returns-clause-found_again c = λ rate steps u decisions stands nearly.
    let nearest = c.finish.ensures.nearest (map costs_of (marks_of rate decisions steps)) 2 (rw (← c.self.view_is) at stands) in
    found_again rate steps c.finish.result c.finish.new.out u decisions nearly nearest

pub returns-clause-stands : goal.returns-clause-stands
returns-clause-stands c = c.finish.ensures.holds 2
