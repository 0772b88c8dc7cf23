use Rattle.std.proofs.Common.{ℕ, ◌+◌, ◌*◌, ◌/◌, ◌%◌, ◌≡◌, ◌<◌, ◌≤◌, List, arith, refl, inl, inr, sym, ◌∙◌, ◌++◌, append-nil}
use Rattle.std.proofs.lemmas.Bool.{cases_lt}
use Rattle.rate_table.specs.declared.CodeRate.{CodeRate}
use Rattle.puncture_map.specs.Kept.{period_of}
use Rattle.puncture_map.proofs.Periods.{all_fed, begun, none_kept, walked}
use Rattle.puncture_map.proofs.Ranks.{kept_count-rises}
use Rattle.survivor_memory.specs.Survivors.{MemoryView}
use Rattle.soft_trellis.specs.declared.Soft.{Soft}
use Rattle.soft_trellis.specs.Values.{marks_of}
use Rattle.soft_trellis.specs.Marks.{StandsFor}
use Rattle.soft_trellis.proofs.SoftTrellis.feed.Goals as goal

-- no steps have no marks
no_marks : (rate : CodeRate) (values : List ℕ) (trellis : MemoryView) (marks : List (Soft × Soft)) (n : ℕ) → n ≡ 0 → StandsFor trellis marks → StandsFor trellis (marks ++ marks_of rate values n)
no_marks rate values trellis marks n none stands = rw (none, append-nil marks) stands

pub loop-period-init : goal.loop-period-init
loop-period-init c =
    let w = walked c.args.rate c.args.count 0 0 in
    record {
      stands = λ marks stands. no_marks c.args.rate c.args.values.now _ marks (0 * period_of c.args.rate) w.none stands;
      next = none_kept c.args.rate (0 * period_of c.args.rate) w.none;
      few = omega arith;
      held = omega (arith, w.none);
      room = refl;
      none = λ start. refl;
      counted = λ some. absurd (omega arith);
    }

pub feed_period-next-requires-clause-room : goal.feed_period-next-requires-clause-room
feed_period-next-requires-clause-room c =
    let w = walked c.args.rate c.args.count c.loop-period._period 0 in
    omega (arith, w.within (rw c.period.ensures at c.loop-period-test.true), c.loop-period.invariant.held, c.loop-period.invariant.room, c.requires.room)

pub feed_period-next-requires-clause-begins : goal.feed_period-next-requires-clause-begins
feed_period-next-requires-clause-begins c =
    let rate = c.args.rate in
    let n = c.loop-period._period in
    let w = walked rate c.args.count n 0 in
    let within = w.within (rw c.period.ensures at c.loop-period-test.true) in
    (n * period_of rate, (w.begins, (c.loop-period.invariant.next, omega (arith, kept_count-rises rate (n * period_of rate + period_of rate) c.args.count within, c.requires.values))))

pub feed_period-next-requires-clause-few : goal.feed_period-next-requires-clause-few
feed_period-next-requires-clause-few c =
    let w = walked c.args.rate c.args.count c.loop-period._period 0 in
    omega (arith, w.within (rw c.period.ensures at c.loop-period-test.true), c.loop-period.invariant.few, c.requires.few)

pub loop-period-preserved : goal.loop-period-preserved
loop-period-preserved c =
    let rate = c.args.rate in
    let n = c.loop-period._period in
    let p = period_of rate in
    let w = walked rate c.args.count n 0 in
    let before = c.loop-period.invariant in
    let fed = c.feed_period-next.ensures in
    let more : n * p + p ≡ (n + 1) * p = sym w.more in
    record {
      stands = λ marks stands. rw more at (fed.appended marks (n * p) w.begins before.next (before.stands marks stands));
      next = rw more at (fed.next (n * p) w.begins before.next);
      few = omega (arith, fed.few, more, before.few);
      held = omega (arith, fed.held, more, before.held);
      room = omega (arith, fed.room, before.room);
      none = λ start. absurd (omega arith);
      counted = λ _. elim (cases_lt 0 n) [
        | inl some ↦ omega (arith, fed.counted, before.counted some, more)
        | inr start ↦ omega (arith, fed.counted, before.none (omega arith), more, w.zero (omega arith))
      ];
    }

pub loop-phase-init : goal.loop-phase-init
loop-phase-init c =
    let rate = c.args.rate in
    let count = c.args.count in
    let n = c.loop-period._period in
    let p = period_of rate in
    let w = walked rate count n 0 in
    let before = c.loop-period.invariant in
    let whole = begun (period_of rate) count n c.period.result (omega arith) c.period.ensures in
    let start : count / p * p ≡ count / p * p + 0 = omega arith in
    record {
      stands = λ marks stands. rw start at stands;
      next = rw (whole ∙ start) at before.next;
      few = omega (arith, whole, before.few);
      held = omega arith;
      room = refl;
      none = λ _. refl;
      counted = λ some. absurd (omega arith);
    }

pub feed_step-next-requires-clause-room : goal.feed_step-next-requires-clause-room
feed_step-next-requires-clause-room c =
    let rate = c.args.rate in
    let w = walked rate c.args.count 0 0 in
    let whole = begun (period_of rate) c.args.count c.loop-period._period c.period.result (omega arith) c.period.ensures in
    omega (arith, w.all, whole, rw c.period-2.ensures at c.loop-phase-test.true, c.loop-phase.invariant.held, c.loop-phase.invariant.room, c.loop-period.invariant.held, c.loop-period.invariant.room, c.requires.room)

pub feed_step-next-requires-clause-at : goal.feed_step-next-requires-clause-at
feed_step-next-requires-clause-at c =
    let rate = c.args.rate in
    let count = c.args.count in
    let phase = c.loop-phase.phase in
    let base = count / period_of rate * period_of rate in
    let w = walked rate count (count / period_of rate) phase in
    let below : phase < count % period_of rate = rw c.period-2.ensures at c.loop-phase-test.true in
    let within : base + phase + 1 ≤ count = omega (arith, w.all, below) in
    (base + phase, (w.behind (omega (arith, below, w.rest)), (c.loop-phase.invariant.next, omega (arith, kept_count-rises rate (base + phase + 1) count within, c.requires.values))))

pub loop-phase-preserved : goal.loop-phase-preserved
loop-phase-preserved c =
    let rate = c.args.rate in
    let count = c.args.count in
    let phase = c.loop-phase.phase in
    let base = count / period_of rate * period_of rate in
    let w = walked rate count (count / period_of rate) phase in
    let below : phase < count % period_of rate = rw c.period-2.ensures at c.loop-phase-test.true in
    let stands_at = w.behind (omega (arith, below, w.rest)) in
    let before = c.loop-phase.invariant in
    let fed = c.feed_step-next.ensures in
    let more : base + phase + 1 ≡ base + (phase + 1) = omega arith in
    record {
      stands = λ marks stands. rw more at (fed.appended marks (base + phase) stands_at before.next (before.stands marks stands));
      next = rw more at (fed.next (base + phase) stands_at before.next);
      few = omega (arith, fed.few, before.few);
      held = omega (arith, fed.held, before.held);
      room = omega (arith, fed.room, before.room);
      none = λ start. absurd (omega arith);
      counted = λ _. elim (cases_lt 0 phase) [
        | inl some ↦ omega (arith, fed.counted, before.counted some)
        | inr start ↦ omega (arith, fed.counted, before.none (omega arith))
      ];
    }

pub returns-clause-appended : goal.returns-clause-appended
returns-clause-appended c = λ marks stands.
    let rate = c.args.rate in
    let whole = begun (period_of rate) c.args.count c.loop-period._period c.period.result (omega arith) c.period.ensures in
    let all = all_fed (period_of rate) c.args.count c.loop-phase.phase c.period-2.result (omega arith) c.period-2.ensures in
    rw all at (c.loop-phase.invariant.stands marks (rw whole at (c.loop-period.invariant.stands marks stands)))

pub returns-clause-held : goal.returns-clause-held
returns-clause-held c =
    let rate = c.args.rate in
    let whole = begun (period_of rate) c.args.count c.loop-period._period c.period.result (omega arith) c.period.ensures in
    let all = all_fed (period_of rate) c.args.count c.loop-phase.phase c.period-2.result (omega arith) c.period-2.ensures in
    omega (arith, whole, all, c.loop-phase.invariant.held, c.loop-period.invariant.held)

pub returns-clause-counted : goal.returns-clause-counted
returns-clause-counted c =
    let rate = c.args.rate in
    let n = c.loop-period._period in
    let whole = begun (period_of rate) c.args.count n c.period.result (omega arith) c.period.ensures in
    let all = all_fed (period_of rate) c.args.count c.loop-phase.phase c.period-2.result (omega arith) c.period-2.ensures in
    let zero = (walked rate c.args.count n 0).zero in
    elim (cases_lt 0 n) [
      | inl some ↦ elim (cases_lt 0 c.loop-phase.phase) [
        | inl behind ↦ omega (arith, whole, all, c.loop-period.invariant.counted some, c.loop-phase.invariant.counted behind)
        | inr none ↦ omega (arith, whole, all, c.loop-period.invariant.counted some, c.loop-phase.invariant.none (omega arith))
      ]
      | inr start ↦ elim (cases_lt 0 c.loop-phase.phase) [
        | inl behind ↦ omega (arith, whole, all, zero (omega arith), c.loop-period.invariant.none (omega arith), c.loop-phase.invariant.counted behind)
        | inr none ↦ absurd (omega (arith, whole, all, zero (omega arith), c.requires.some))
      ]
    ]
