use Rattle.std.proofs.Common.{ℕ, ◌+◌, ◌*◌, ◌/◌, ◌%◌, ◌≡◌, ◌<◌, ◌≤◌, List, arith, refl, inl, inr, sym, ◌∙◌, ◌++◌, append-nil}
use Rattle.std.proofs.lemmas.Bool.{cases_lt}
use Rattle.rate_table.specs.declared.CodeRate.{CodeRate}
use Rattle.puncture_map.proofs.Periods.{all_fed, begun, none_kept}
use Rattle.puncture_map.proofs.Ranks.{kept_count-rises}
use Rattle.survivor_memory.specs.Survivors.{MemoryView}
use Rattle.viterbi_lanes.specs.declared.Mark.{Mark}
use Rattle.viterbi_lanes.specs.Decisions.{fed_at_once, marks_of}
use Rattle.viterbi_lanes.specs.Marks.{StandsFor}
use Rattle.viterbi_lanes.proofs.Blocks.{begins_period, behind_blocks, blocks_walked}
use Rattle.viterbi_lanes.proofs.Trellis.feed.Goals as goal

-- no steps have no marks
no_marks : (rate : CodeRate) (decisions : List ℕ) (trellis : MemoryView) (marks : List (Mark × Mark)) (n : ℕ) → n ≡ 0 → StandsFor trellis marks → StandsFor trellis (marks ++ marks_of rate decisions n)
no_marks rate decisions trellis marks n none stands = rw (none, append-nil marks) stands

pub loop-block-init : goal.loop-block-init
loop-block-init c =
    let w = blocks_walked c.args.rate c.args.count 0 0 in
    record {
      stands = λ marks stands. no_marks c.args.rate c.args.decisions.now _ marks (0 * fed_at_once c.args.rate) w.none stands;
      next = none_kept c.args.rate (0 * fed_at_once c.args.rate) w.none;
      few = omega arith;
      held = omega (arith, w.none);
      room = refl;
      none = λ start. refl;
      counted = λ some. absurd (omega arith);
      entries = λ some. absurd (omega arith);
    }

pub feed_block-next-requires-clause-room : goal.feed_block-next-requires-clause-room
feed_block-next-requires-clause-room c =
    let w = blocks_walked c.args.rate c.args.count c.loop-block._block 0 in
    omega (arith, w.within (rw c.at_once.ensures at c.loop-block-test.true), c.loop-block.invariant.held, c.loop-block.invariant.room, c.requires.room)

pub feed_block-next-requires-clause-begins : goal.feed_block-next-requires-clause-begins
feed_block-next-requires-clause-begins c =
    let rate = c.args.rate in
    let n = c.loop-block._block in
    let w = blocks_walked rate c.args.count n 0 in
    let within = w.within (rw c.at_once.ensures at c.loop-block-test.true) in
    (n * fed_at_once rate, (begins_period rate n, (c.loop-block.invariant.next, omega (arith, kept_count-rises rate (n * fed_at_once rate + fed_at_once rate) c.args.count within, c.requires.decisions))))

pub feed_block-next-requires-clause-few : goal.feed_block-next-requires-clause-few
feed_block-next-requires-clause-few c =
    let w = blocks_walked c.args.rate c.args.count c.loop-block._block 0 in
    omega (arith, w.within (rw c.at_once.ensures at c.loop-block-test.true), c.loop-block.invariant.few, c.requires.few)

pub loop-block-preserved : goal.loop-block-preserved
loop-block-preserved c =
    let rate = c.args.rate in
    let n = c.loop-block._block in
    let p = fed_at_once rate in
    let w = blocks_walked rate c.args.count n 0 in
    let before = c.loop-block.invariant in
    let fed = c.feed_block-next.ensures in
    let more : n * p + p ≡ (n + 1) * p = sym w.more in
    record {
      stands = λ marks stands. rw more at (fed.appended marks (n * p) (begins_period rate n) before.next (before.stands marks stands));
      next = rw more at (fed.next (n * p) (begins_period rate n) before.next);
      few = omega (arith, fed.few, more, before.few);
      held = omega (arith, fed.held, more, before.held);
      room = omega (arith, fed.room, before.room);
      none = λ start. absurd (omega arith);
      counted = λ _. elim (cases_lt 0 n) [
        | inl some ↦ omega (arith, fed.counted, before.counted some, more)
        | inr start ↦ omega (arith, fed.counted, before.none (omega arith), more, w.zero (omega arith))
      ];
      entries = λ _. fed.entries;
    }

pub loop-phase-init : goal.loop-phase-init
loop-phase-init c =
    let rate = c.args.rate in
    let count = c.args.count in
    let n = c.loop-block._block in
    let p = fed_at_once rate in
    let w = blocks_walked rate count n 0 in
    let before = c.loop-block.invariant in
    let whole = begun (fed_at_once rate) count n c.at_once.result (omega arith) c.at_once.ensures in
    let start : count / p * p ≡ count / p * p + 0 = omega arith in
    record {
      stands = λ marks stands. rw start at stands;
      next = rw (whole ∙ start) at before.next;
      few = omega (arith, whole, before.few);
      held = omega arith;
      room = refl;
      none = λ _. refl;
      counted = λ some. absurd (omega arith);
      entries = λ some. before.entries (elim (cases_lt 0 n) [
        | inl some_begun ↦ some_begun
        | inr none ↦ absurd (omega (arith, whole, some, w.zero (omega arith)))
      ]);
    }

pub feed_step-next-requires-clause-room : goal.feed_step-next-requires-clause-room
feed_step-next-requires-clause-room c =
    let rate = c.args.rate in
    let w = blocks_walked rate c.args.count 0 0 in
    let whole = begun (fed_at_once rate) c.args.count c.loop-block._block c.at_once.result (omega arith) c.at_once.ensures in
    omega (arith, w.all, whole, rw c.at_once-2.ensures at c.loop-phase-test.true, c.loop-phase.invariant.held, c.loop-phase.invariant.room, c.loop-block.invariant.held, c.loop-block.invariant.room, c.requires.room)

pub feed_step-next-requires-clause-phase : goal.feed_step-next-requires-clause-phase
feed_step-next-requires-clause-phase c =
    (behind_blocks c.args.rate 0 c.args.count c.loop-phase.phase (rw c.at_once-2.ensures at c.loop-phase-test.true)).0

pub feed_step-next-requires-clause-at : goal.feed_step-next-requires-clause-at
feed_step-next-requires-clause-at c =
    let rate = c.args.rate in
    let count = c.args.count in
    let phase = c.loop-phase.phase in
    let base = count / fed_at_once rate * fed_at_once rate in
    let w = blocks_walked rate count (count / fed_at_once rate) phase in
    let below : phase < count % fed_at_once rate = rw c.at_once-2.ensures at c.loop-phase-test.true in
    let within : base + phase + 1 ≤ count = omega (arith, w.all, below) in
    (base + phase, ((behind_blocks rate (count / fed_at_once rate) count phase below).1, (c.loop-phase.invariant.next, omega (arith, kept_count-rises rate (base + phase + 1) count within, c.requires.decisions))))

pub loop-phase-preserved : goal.loop-phase-preserved
loop-phase-preserved c =
    let rate = c.args.rate in
    let count = c.args.count in
    let phase = c.loop-phase.phase in
    let base = count / fed_at_once rate * fed_at_once rate in
    let w = blocks_walked rate count (count / fed_at_once rate) phase in
    let below : phase < count % fed_at_once rate = rw c.at_once-2.ensures at c.loop-phase-test.true in
    let stands_at = (behind_blocks rate (count / fed_at_once rate) count phase below).1 in
    let before = c.loop-phase.invariant in
    let fed = c.feed_step-next.ensures in
    let more : base + phase + 1 ≡ base + (phase + 1) = omega arith in
    record {
      stands = λ marks stands. rw more at (fed.appended marks (base + phase) stands_at before.next (before.stands marks stands));
      next = rw more at (fed.next (base + phase) stands_at before.next);
      few = omega (arith, fed.few, before.few);
      held = omega (arith, fed.held, before.held);
      room = omega (arith, fed.room, before.room);
      none = λ start. absurd (omega arith);
      counted = λ _. elim (cases_lt 0 phase) [
        | inl some ↦ omega (arith, fed.counted, before.counted some)
        | inr start ↦ omega (arith, fed.counted, before.none (omega arith))
      ];
      entries = λ _. fed.entries;
    }

pub returns-clause-appended : goal.returns-clause-appended
returns-clause-appended c = λ marks stands.
    let rate = c.args.rate in
    let whole = begun (fed_at_once rate) c.args.count c.loop-block._block c.at_once.result (omega arith) c.at_once.ensures in
    let all = all_fed (fed_at_once rate) c.args.count c.loop-phase.phase c.at_once-2.result (omega arith) c.at_once-2.ensures in
    rw all at (c.loop-phase.invariant.stands marks (rw whole at (c.loop-block.invariant.stands marks stands)))

pub returns-clause-held : goal.returns-clause-held
returns-clause-held c =
    let rate = c.args.rate in
    let whole = begun (fed_at_once rate) c.args.count c.loop-block._block c.at_once.result (omega arith) c.at_once.ensures in
    let all = all_fed (fed_at_once rate) c.args.count c.loop-phase.phase c.at_once-2.result (omega arith) c.at_once-2.ensures in
    omega (arith, whole, all, c.loop-phase.invariant.held, c.loop-block.invariant.held)

pub returns-clause-entries : goal.returns-clause-entries
returns-clause-entries c =
    let all = all_fed (fed_at_once c.args.rate) c.args.count c.loop-phase.phase c.at_once-2.result (omega arith) c.at_once-2.ensures in
    c.loop-phase.invariant.entries (omega (arith, all, c.requires.some))

pub returns-clause-room : goal.returns-clause-room
returns-clause-room c = c.loop-phase.invariant.room ∙ c.loop-block.invariant.room

pub returns-clause-counted : goal.returns-clause-counted
returns-clause-counted c =
    let rate = c.args.rate in
    let n = c.loop-block._block in
    let whole = begun (fed_at_once rate) c.args.count n c.at_once.result (omega arith) c.at_once.ensures in
    let all = all_fed (fed_at_once rate) c.args.count c.loop-phase.phase c.at_once-2.result (omega arith) c.at_once-2.ensures in
    let zero = (blocks_walked rate c.args.count n 0).zero in
    elim (cases_lt 0 n) [
      | inl some ↦ elim (cases_lt 0 c.loop-phase.phase) [
        | inl behind ↦ omega (arith, whole, all, c.loop-block.invariant.counted some, c.loop-phase.invariant.counted behind)
        | inr none ↦ omega (arith, whole, all, c.loop-block.invariant.counted some, c.loop-phase.invariant.none (omega arith))
      ]
      | inr start ↦ elim (cases_lt 0 c.loop-phase.phase) [
        | inl behind ↦ omega (arith, whole, all, zero (omega arith), c.loop-block.invariant.none (omega arith), c.loop-phase.invariant.counted behind)
        | inr none ↦ absurd (omega (arith, whole, all, zero (omega arith), c.requires.some))
      ]
    ]
