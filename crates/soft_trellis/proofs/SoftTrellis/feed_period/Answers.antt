use Rattle.std.proofs.Common.{◌≡◌, ◌+◌, ◌%◌, ap, arith}
use Rattle.puncture_map.specs.Kept.{period_of}
use Rattle.puncture_map.proofs.Periods.{at_start}
use Rattle.puncture_map.proofs.Ranks.{kept_count-rises}
use Rattle.soft_trellis.proofs.SoftTrellis.feed_period.Goals as goal

pub feed_step-next-requires-clause-at : goal.feed_step-next-requires-clause-at
feed_step-next-requires-clause-at c =
    let (step, (phase, (at, enough))) = c.requires.begins in
    (step, (phase, (at, omega (arith, enough, kept_count-rises c.args.rate (step + 1) (step + period_of c.args.rate) (omega (arith, (at_start c.args.rate).1))))))

pub feed_step-next-requires-in-ThreeQuarters-clause-at : goal.feed_step-next-requires-in-ThreeQuarters-clause-at
feed_step-next-requires-in-ThreeQuarters-clause-at c =
    let (step, (phase, (at, enough))) = c.requires.begins in
    let three : period_of c.args.rate ≡ 3 = ap period_of c.in-ThreeQuarters.is in
    let begins : step % 3 ≡ 0 = rw three at phase in
    (step + 1, (rw three (omega (arith, begins)), (c.feed_step-next.ensures.next step phase at, omega (arith, enough, kept_count-rises c.args.rate (step + 1 + 1) (step + period_of c.args.rate) (omega (arith, three))))))

pub returns-in-TwoThirds-clause-appended : goal.returns-in-TwoThirds-clause-appended
returns-in-TwoThirds-clause-appended c = λ marks step phase at stands.
    let two : period_of c.args.rate ≡ 2 = ap period_of c.in-TwoThirds.is in
    let begins : step % 2 ≡ 0 = rw two at phase in
    let first = c.feed_step-next.ensures.appended marks step phase at stands in
    let second = c.feed_step.ensures.appended marks (step + 1) (rw two (omega (arith, begins))) (c.feed_step-next.ensures.next step phase at) first in
    let whole : step + 1 + 1 ≡ step + period_of c.args.rate = omega (arith, two) in
    rw whole at second

pub returns-in-TwoThirds-clause-next : goal.returns-in-TwoThirds-clause-next
returns-in-TwoThirds-clause-next c = λ step phase at.
    let two : period_of c.args.rate ≡ 2 = ap period_of c.in-TwoThirds.is in
    let begins : step % 2 ≡ 0 = rw two at phase in
    let second = c.feed_step.ensures.next (step + 1) (rw two (omega (arith, begins))) (c.feed_step-next.ensures.next step phase at) in
    let whole : step + 1 + 1 ≡ step + period_of c.args.rate = omega (arith, two) in
    rw whole at second

pub returns-in-ThreeQuarters-clause-appended : goal.returns-in-ThreeQuarters-clause-appended
returns-in-ThreeQuarters-clause-appended c = λ marks step phase at stands.
    let three : period_of c.args.rate ≡ 3 = ap period_of c.in-ThreeQuarters.is in
    let begins : step % 3 ≡ 0 = rw three at phase in
    let first = c.feed_step-next.ensures.appended marks step phase at stands in
    let second = c.feed_step-next-in-ThreeQuarters.ensures.appended marks (step + 1) (rw three (omega (arith, begins))) (c.feed_step-next.ensures.next step phase at) first in
    let at_third = c.feed_step-next-in-ThreeQuarters.ensures.next (step + 1) (rw three (omega (arith, begins))) (c.feed_step-next.ensures.next step phase at) in
    let third = c.feed_step-in-ThreeQuarters.ensures.appended marks (step + 1 + 1) (rw three (omega (arith, begins))) at_third second in
    let whole : step + 1 + 1 + 1 ≡ step + period_of c.args.rate = omega (arith, three) in
    rw whole at third

pub returns-in-ThreeQuarters-clause-next : goal.returns-in-ThreeQuarters-clause-next
returns-in-ThreeQuarters-clause-next c = λ step phase at.
    let three : period_of c.args.rate ≡ 3 = ap period_of c.in-ThreeQuarters.is in
    let begins : step % 3 ≡ 0 = rw three at phase in
    let at_third = c.feed_step-next-in-ThreeQuarters.ensures.next (step + 1) (rw three (omega (arith, begins))) (c.feed_step-next.ensures.next step phase at) in
    let third = c.feed_step-in-ThreeQuarters.ensures.next (step + 1 + 1) (rw three (omega (arith, begins))) at_third in
    let whole : step + 1 + 1 + 1 ≡ step + period_of c.args.rate = omega (arith, three) in
    rw whole at third
