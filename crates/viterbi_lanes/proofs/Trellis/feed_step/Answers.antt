use Rattle.std.proofs.Common.{◌+◌, ◌≡◌, sym, ◌++◌, ◌∷◌, [], append_assoc}
use Rattle.viterbi_lanes.specs.Decisions.{marks_at, marks_of}
use Rattle.viterbi_lanes.proofs.Decisions.{marks_of_more}
use Rattle.viterbi_lanes.proofs.Trellis.feed_step.Goals as goal

pub returns-clause-appended : goal.returns-clause-appended
returns-clause-appended c = λ marks step phase at stands.
    let rate = c.args.rate in
    let decisions = c.args.decisions.now in
    let before = marks_of rate decisions step in
    let pair : before ++ marks_at rate decisions step ∷ [] ≡ marks_of rate decisions (step + 1) = sym (marks_of_more rate decisions step) in
    let stood = c.step.ensures.appended (marks ++ before) stands in
    rw (append_assoc, c.step_marks-next.ensures.marks step phase at, pair) at stood
