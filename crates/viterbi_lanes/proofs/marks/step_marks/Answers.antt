use Rattle.std.proofs.Common.{◌+◌, ◌*◌, ◌≡◌, length, arith}
use Rattle.puncture_map.specs.Carried.{carried_pair}
use Rattle.puncture_map.proofs.Carried.{carried_is}
use Rattle.puncture_map.proofs.Periods.{byte_le, rank-counted, rank-within}
use Rattle.viterbi_lanes.specs.declared.Mark.TheVariants.{Absent}
use Rattle.viterbi_lanes.specs.Decisions.{mark_at, mark_of}
use Rattle.viterbi_lanes.proofs.marks.step_marks.Goals as goal

pub mark-a-requires : goal.mark-a-requires
mark-a-requires c = λ kept.
    let (step, (phase, (at, enough))) = c.requires.at in
    let is = c.kept_in_period-a_is_kept.ensures.first step phase in
    omega (arith, at, rank-within c.args.rate (2 * step) step (step + 1) (length c.args.decisions.now) c.kept_in_period-a_is_kept.result.0 (omega arith) (omega arith) enough is kept)

pub mark-b-requires : goal.mark-b-requires
mark-b-requires c = λ kept.
    let (step, (phase, (at, enough))) = c.requires.at in
    let first = c.kept_in_period-a_is_kept.ensures.first step phase in
    let second = c.kept_in_period-a_is_kept.ensures.second step phase in
    let next = rank-counted c.args.rate (2 * step) c.from.result c.kept_in_period-a_is_kept.result.0 c.from.ensures first in
    omega (arith, at, next, rank-within c.args.rate (2 * step + 1) step (step + 1) (length c.args.decisions.now) c.kept_in_period-a_is_kept.result.1 (omega arith) (omega arith) enough second kept)

pub overflow_add-next : goal.overflow_add-next
overflow_add-next c = record { fits = omega (arith, c.requires.few, c.from.ensures, byte_le c.kept_in_period-a_is_kept.result.0) }

pub returns-clause-marks : goal.returns-clause-marks
unfolding carried_pair
returns-clause-marks c = λ step phase at.
    let rate = c.args.rate in
    let decisions = c.args.decisions.now in
    let kept = c.kept_in_period-a_is_kept in
    let first = kept.ensures.first step phase in
    let second = kept.ensures.second step phase in
    let next = rank-counted rate (2 * step) c.from.result kept.result.0 c.from.ensures first in
    let a : c.mark-a.result ≡ mark_at rate decisions (2 * step) = carried_is mark_of Absent rate decisions (2 * step) c.args.next kept.result.0 c.mark-a.result first at c.mark-a.ensures in
    let b : c.mark-b.result ≡ mark_at rate decisions (2 * step + 1) =
    carried_is mark_of Absent rate decisions (2 * step + 1) (c.args.next + c.from.result) kept.result.1 c.mark-b.result second (omega (arith, next, at)) c.mark-b.ensures
    in
    rw (a, b)

pub returns-clause-next : goal.returns-clause-next
returns-clause-next c = λ step phase at.
    let rate = c.args.rate in
    let kept = c.kept_in_period-a_is_kept in
    let first = kept.ensures.first step phase in
    let second = kept.ensures.second step phase in
    let next = rank-counted rate (2 * step) c.from.result kept.result.0 c.from.ensures first in
    let after = rank-counted rate (2 * step + 1) c.from-2.result kept.result.1 c.from-2.ensures second in
    let places : 2 * (step + 1) ≡ 2 * step + 1 + 1 = omega arith in
    rw places (omega (arith, next, after, at))

pub returns-clause-few : goal.returns-clause-few
returns-clause-few c = omega (arith, c.from.ensures, byte_le c.kept_in_period-a_is_kept.result.0, c.from-2.ensures, byte_le c.kept_in_period-a_is_kept.result.1)
