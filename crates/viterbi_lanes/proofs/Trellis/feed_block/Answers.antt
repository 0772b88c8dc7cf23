use Rattle.std.proofs.Common.{◌≡◌, ℕ, ◌+◌, ◌≤◌, ◌%◌, ◌++◌, ap, append_assoc, arith}
use Rattle.rate_table.specs.declared.CodeRate.{CodeRate}
use Rattle.puncture_map.specs.Kept.{kept_count, period_of}
use Rattle.puncture_map.proofs.Ranks.{kept_count-rises}
use Rattle.viterbi_lanes.specs.Decisions.{fed_at_once, marks_of}
use Rattle.viterbi_lanes.proofs.Decisions.{marks_of_two_more, marks_of_three_more}
use Rattle.viterbi_lanes.proofs.Trellis.feed_block.Goals as goal

-- the decisions of a block's earlier steps are there
enough_for : (rate : CodeRate) (step more block long : ℕ) → fed_at_once rate ≡ block → more ≤ block → kept_count rate (step + fed_at_once rate) ≤ long → kept_count rate (step + more) ≤ long
enough_for rate step more block long is few enough = omega (arith, enough, kept_count-rises rate (step + more) (step + fed_at_once rate) (omega (arith, is)))

pub step_marks-next-requires-clause-at : goal.step_marks-next-requires-clause-at
step_marks-next-requires-clause-at c =
    let (step, (phase, (at, enough))) = c.requires.begins in
    let two : fed_at_once c.args.rate ≡ 2 = ap fed_at_once c.in-Half.is in
    (step, (phase, (at, enough_for c.args.rate step 1 2 _ two (omega arith) enough)))

pub step_marks-next-requires-in-Half-clause-at : goal.step_marks-next-requires-in-Half-clause-at
step_marks-next-requires-in-Half-clause-at c =
    let (step, (phase, (at, enough))) = c.requires.begins in
    let two : fed_at_once c.args.rate ≡ 2 = ap fed_at_once c.in-Half.is in
    let one : period_of c.args.rate ≡ 1 = ap period_of c.in-Half.is in
    let more : step + 1 + 1 ≡ step + 2 = omega arith in
    (step + 1, (rw one (omega arith), (c.step_marks-next.ensures.next step phase at, rw more (enough_for c.args.rate step 2 2 _ two (omega arith) enough))))

pub step_marks-next-requires-in-TwoThirds-clause-at : goal.step_marks-next-requires-in-TwoThirds-clause-at
step_marks-next-requires-in-TwoThirds-clause-at c =
    let (step, (phase, (at, enough))) = c.requires.begins in
    let two : fed_at_once c.args.rate ≡ 2 = ap fed_at_once c.in-TwoThirds.is in
    (step, (phase, (at, enough_for c.args.rate step 1 2 _ two (omega arith) enough)))

pub step_marks-next-requires-in-ThreeQuarters-clause-at : goal.step_marks-next-requires-in-ThreeQuarters-clause-at
step_marks-next-requires-in-ThreeQuarters-clause-at c =
    let (step, (phase, (at, enough))) = c.requires.begins in
    let three : fed_at_once c.args.rate ≡ 3 = ap fed_at_once c.in-ThreeQuarters.is in
    (step, (phase, (at, enough_for c.args.rate step 1 3 _ three (omega arith) enough)))

pub step_marks-next-requires-in-ThreeQuarters-2-clause-at : goal.step_marks-next-requires-in-ThreeQuarters-2-clause-at
step_marks-next-requires-in-ThreeQuarters-2-clause-at c =
    let (step, (phase, (at, enough))) = c.requires.begins in
    let three : period_of c.args.rate ≡ 3 = ap period_of c.in-ThreeQuarters.is in
    let once : fed_at_once c.args.rate ≡ 3 = ap fed_at_once c.in-ThreeQuarters.is in
    let begins : step % 3 ≡ 0 = rw three at phase in
    let more : step + 1 + 1 ≡ step + 2 = omega arith in
    (step + 1, (rw three (omega (arith, begins)), (c.step_marks-next-in-ThreeQuarters.ensures.next step phase at, rw more (enough_for c.args.rate step 2 3 _ once (omega arith) enough))))

pub returns-in-Half-clause-appended : goal.returns-in-Half-clause-appended
returns-in-Half-clause-appended c = λ marks step phase at stands.
    let rate = c.args.rate in
    let decisions = c.args.decisions.now in
    let before = marks_of rate decisions step in
    let one : period_of rate ≡ 1 = ap period_of c.in-Half.is in
    let two : fed_at_once rate ≡ 2 = ap fed_at_once c.in-Half.is in
    let at_second = c.step_marks-next.ensures.next step phase at in
    let fed = c.two_steps.ensures.appended (marks ++ before) stands in
    rw two (rw (append_assoc, c.step_marks-next.ensures.marks step phase at, c.step_marks-next-in-Half.ensures.marks (step + 1) (rw one (omega arith)) at_second, ← marks_of_two_more rate decisions step) at fed)

pub returns-in-Half-clause-next : goal.returns-in-Half-clause-next
returns-in-Half-clause-next c = λ step phase at.
    let one : period_of c.args.rate ≡ 1 = ap period_of c.in-Half.is in
    let two : fed_at_once c.args.rate ≡ 2 = ap fed_at_once c.in-Half.is in
    let second = c.step_marks-next-in-Half.ensures.next (step + 1) (rw one (omega arith)) (c.step_marks-next.ensures.next step phase at) in
    let whole : step + 1 + 1 ≡ step + fed_at_once c.args.rate = omega (arith, two) in
    rw whole at second

pub returns-in-TwoThirds-clause-appended : goal.returns-in-TwoThirds-clause-appended
returns-in-TwoThirds-clause-appended c = λ marks step phase at stands.
    let rate = c.args.rate in
    let decisions = c.args.decisions.now in
    let before = marks_of rate decisions step in
    let two : period_of rate ≡ 2 = ap period_of c.in-TwoThirds.is in
    let once : fed_at_once rate ≡ 2 = ap fed_at_once c.in-TwoThirds.is in
    let begins : step % 2 ≡ 0 = rw two at phase in
    let at_second = c.step_marks-next-in-TwoThirds.ensures.next step phase at in
    let fed = c.two_steps-in-TwoThirds.ensures.appended (marks ++ before) stands in
    rw once (rw (append_assoc, c.step_marks-next-in-TwoThirds.ensures.marks step phase at, c.step_marks-next-in-TwoThirds-2.ensures.marks (step + 1) (rw two (omega (arith, begins))) at_second, ← marks_of_two_more rate decisions step) at fed)

pub returns-in-TwoThirds-clause-next : goal.returns-in-TwoThirds-clause-next
returns-in-TwoThirds-clause-next c = λ step phase at.
    let two : period_of c.args.rate ≡ 2 = ap period_of c.in-TwoThirds.is in
    let once : fed_at_once c.args.rate ≡ 2 = ap fed_at_once c.in-TwoThirds.is in
    let begins : step % 2 ≡ 0 = rw two at phase in
    let second = c.step_marks-next-in-TwoThirds-2.ensures.next (step + 1) (rw two (omega (arith, begins))) (c.step_marks-next-in-TwoThirds.ensures.next step phase at) in
    let whole : step + 1 + 1 ≡ step + fed_at_once c.args.rate = omega (arith, once) in
    rw whole at second

pub returns-in-ThreeQuarters-clause-appended : goal.returns-in-ThreeQuarters-clause-appended
returns-in-ThreeQuarters-clause-appended c = λ marks step phase at stands.
    let rate = c.args.rate in
    let decisions = c.args.decisions.now in
    let before = marks_of rate decisions step in
    let three : period_of rate ≡ 3 = ap period_of c.in-ThreeQuarters.is in
    let once : fed_at_once rate ≡ 3 = ap fed_at_once c.in-ThreeQuarters.is in
    let begins : step % 3 ≡ 0 = rw three at phase in
    let at_second = c.step_marks-next-in-ThreeQuarters.ensures.next step phase at in
    let at_third = c.step_marks-next-in-ThreeQuarters-2.ensures.next (step + 1) (rw three (omega (arith, begins))) at_second in
    let one_one : step + 1 + 1 ≡ step + 2 = omega arith in
    let third = c.step_marks-next-in-ThreeQuarters-3.ensures.marks (step + 2) (rw three (omega (arith, begins))) (rw one_one at at_third) in
    let fed = c.three_steps.ensures.appended (marks ++ before) stands in
    rw once (rw (append_assoc, c.step_marks-next-in-ThreeQuarters.ensures.marks step phase at, c.step_marks-next-in-ThreeQuarters-2.ensures.marks (step + 1) (rw three (omega (arith, begins))) at_second, third, ← marks_of_three_more rate decisions step) at fed)

pub returns-in-ThreeQuarters-clause-next : goal.returns-in-ThreeQuarters-clause-next
returns-in-ThreeQuarters-clause-next c = λ step phase at.
    let three : period_of c.args.rate ≡ 3 = ap period_of c.in-ThreeQuarters.is in
    let once : fed_at_once c.args.rate ≡ 3 = ap fed_at_once c.in-ThreeQuarters.is in
    let begins : step % 3 ≡ 0 = rw three at phase in
    let at_third = c.step_marks-next-in-ThreeQuarters-2.ensures.next (step + 1) (rw three (omega (arith, begins))) (c.step_marks-next-in-ThreeQuarters.ensures.next step phase at) in
    let third = c.step_marks-next-in-ThreeQuarters-3.ensures.next (step + 1 + 1) (rw three (omega (arith, begins))) at_third in
    let whole : step + 1 + 1 + 1 ≡ step + fed_at_once c.args.rate = omega (arith, once) in
    rw whole at third
