use Rattle.std.proofs.Common.{◌+◌, ◌<◌, length, take, ap, refl, inl, inr, arith}
use Rattle.std.proofs.lemmas.List.{length-take, take_more_set}
use Rattle.survivor_memory.proofs.Blocks.{holds_as, holds_next_lowered, none_off}
use Rattle.survivor_memory.proofs.SurvivorMemory.step_by.Goals as goal

pub returns-in-Some-clause-appended : goal.returns-in-Some-clause-appended
returns-in-Some-clause-appended c = λ pairs costs branches light holds.
    let items = c.self.inside.rows.items in
    let held = c.self.inside.held in
    let base = c.self.inside.base in
    let row = c.next_entries-row in
    let off = c.in-Some.ensures in
    let room = rw (← c.self.view_is) at c.requires.room in
    let place : held < length items = omega (arith, room, c.self.inside.rows.ok.0, length-take held items) in
    holds_as c.args.most _ _ _ _ _ _ _ _ (take_more_set items held row.result.1 place) (ap (λ n. base + n) c.from.ensures) refl
    (holds_next_lowered c.args.most _ c.self.inside.entries row.result.0 _ (take held items) base _ row.result.1 _ costs pairs (c.requires.light) branches light row.ensures
    off.lowered (inr off.found) (rw (← c.self.view_is) at holds))

pub returns-in_default-clause-appended : goal.returns-in_default-clause-appended
returns-in_default-clause-appended c = λ pairs costs branches light holds.
    let items = c.self.inside.rows.items in
    let held = c.self.inside.held in
    let base = c.self.inside.base in
    let row = c.next_entries-row in
    let kept = c.in_default.ensures in
    let room = rw (← c.self.view_is) at c.requires.room in
    let place : held < length items = omega (arith, room, c.self.inside.rows.ok.0, length-take held items) in
    rw kept.kept
    (holds_as c.args.most row.result.0 _ _ _ _ _ _ _ (take_more_set items held row.result.1 place) (omega arith) refl
    (holds_next_lowered c.args.most 0 c.self.inside.entries row.result.0 row.result.0 (take held items) base _ row.result.1 _ costs pairs (c.requires.light) branches light row.ensures
    (none_off row.result.0) (inl kept.none) (rw (← c.self.view_is) at holds)))
