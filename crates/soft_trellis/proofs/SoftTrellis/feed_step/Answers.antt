use Rattle.std.proofs.Common.{◌+◌, ◌*◌, ◌≡◌, length, arith, sym, ◌++◌, ◌∷◌, [], append_assoc}
use Rattle.puncture_map.specs.Carried.{carried_pair}
use Rattle.puncture_map.proofs.Carried.{carried_is}
use Rattle.puncture_map.proofs.Periods.{byte_le, rank-counted, rank-within}
use Rattle.soft_trellis.specs.declared.Soft.TheVariants.{Absent, Cost}
use Rattle.soft_trellis.specs.Values.{mark_at, marks_of}
use Rattle.soft_trellis.proofs.Marks.{marks_of_more}
use Rattle.soft_trellis.proofs.SoftTrellis.feed_step.Goals as goal

pub mark-a-requires-clause-next : goal.mark-a-requires-clause-next
mark-a-requires-clause-next c = λ kept.
    let (step, (phase, (at, enough))) = c.requires.at in
    let is = c.kept_in_period-a_is_kept.ensures.first step phase in
    omega (arith, at, rank-within c.args.rate (2 * step) step (step + 1) (length c.args.values.now) c.kept_in_period-a_is_kept.result.0 (omega arith) (omega arith) enough is kept)

pub mark-b-requires-clause-next : goal.mark-b-requires-clause-next
mark-b-requires-clause-next c = λ kept.
    let (step, (phase, (at, enough))) = c.requires.at in
    let first = c.kept_in_period-a_is_kept.ensures.first step phase in
    let second = c.kept_in_period-a_is_kept.ensures.second step phase in
    let next = rank-counted c.args.rate (2 * step) c.from.result c.kept_in_period-a_is_kept.result.0 c.from.ensures first in
    omega (arith, at, next, rank-within c.args.rate (2 * step + 1) step (step + 1) (length c.args.values.now) c.kept_in_period-a_is_kept.result.1 (omega arith) (omega arith) enough second kept)

pub overflow_add-next : goal.overflow_add-next
overflow_add-next c = record { fits = omega (arith, c.requires.few, c.from.ensures, byte_le c.kept_in_period-a_is_kept.result.0) }

pub returns-clause-appended : goal.returns-clause-appended
unfolding carried_pair
returns-clause-appended c = λ marks step phase at stands.
    let rate = c.args.rate in
    let values = c.args.values.now in
    let kept = c.kept_in_period-a_is_kept in
    let first = kept.ensures.first step phase in
    let second = kept.ensures.second step phase in
    let next = rank-counted rate (2 * step) c.from.result kept.result.0 c.from.ensures first in
    let a : c.mark-a.result ≡ mark_at rate values (2 * step) = carried_is (λ value. Cost value) Absent rate values (2 * step) c.args.next kept.result.0 c.mark-a.result first at c.mark-a.ensures.mark in
    let b : c.mark-b.result ≡ mark_at rate values (2 * step + 1) =
    carried_is (λ value. Cost value) Absent rate values (2 * step + 1) (c.args.next + c.from.result) kept.result.1 c.mark-b.result second (omega (arith, next, at)) c.mark-b.ensures.mark
    in
    let before = marks_of rate values step in
    let pair : before ++ (c.mark-a.result, c.mark-b.result) ∷ [] ≡ marks_of rate values (step + 1) = rw (a, b) (sym (marks_of_more rate values step)) in
    let stood = c.step.ensures.appended (marks ++ before) stands in
    rw (append_assoc, pair) at stood

pub returns-clause-next : goal.returns-clause-next
returns-clause-next c = λ step phase at.
    let rate = c.args.rate in
    let kept = c.kept_in_period-a_is_kept in
    let first = kept.ensures.first step phase in
    let second = kept.ensures.second step phase in
    let next = rank-counted rate (2 * step) c.from.result kept.result.0 c.from.ensures first in
    let after = rank-counted rate (2 * step + 1) c.from-2.result kept.result.1 c.from-2.ensures second in
    let places : 2 * (step + 1) ≡ 2 * step + 1 + 1 = omega arith in
    rw places (omega (arith, next, after, at))

pub returns-clause-few : goal.returns-clause-few
returns-clause-few c = omega (arith, c.from.ensures, byte_le c.kept_in_period-a_is_kept.result.0, c.from-2.ensures, byte_le c.kept_in_period-a_is_kept.result.1)
