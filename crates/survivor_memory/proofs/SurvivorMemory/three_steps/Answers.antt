use Rattle.std.proofs.Common.{◌+◌, ◌-◌, ◌*◌, ◌≤◌, ◌++◌, [], ◌∷◌, ◌∙◌, length, take, ap, append_assoc, arith}
use Rattle.std.proofs.lemmas.List.{length-take}
use Rattle.survivor_memory.proofs.Blocks.{holds_lowered, holds_next, holds_as, three_rows}
use Rattle.survivor_memory.proofs.SurvivorMemory.three_steps.Goals as goal

pub returns-clause-appended : goal.returns-clause-appended
returns-clause-appended c = λ pairs one two three first second third light holds.
    let items = c.self.inside.rows.items in
    let held = c.self.inside.held in
    let most = c.args.most in
    let base = c.self.inside.base in
    let off = c.lower_above-common in
    let limit = 254 - 10 * most in
    let row = c.next_entries-first_row in
    let other = c.next_entries-second_row in
    let last = c.next_entries-third_row in
    let before = take held items in
    let start = holds_lowered most limit off.result.1 c.self.inside.entries off.result.0 before base _ pairs (omega (arith, c.requires.light)) (rw (← c.self.view_is) at holds) off.ensures.lowered off.ensures.low (omega arith) in
    let middle = holds_next most limit off.result.0 row.result.0 before (base + off.result.1) _ row.result.1 c.args.first.now one pairs (omega (arith, c.requires.light)) first (light 0 one (omega arith)) row.ensures start in
    let later = holds_next most (limit + most) row.result.0 other.result.0 (before ++ row.result.1 ∷ []) (base + off.result.1) _ other.result.1 c.args.second.now two (pairs ++ one ∷ []) (omega (arith, c.requires.light)) second (light 1 one (omega arith)) other.ensures middle in
    let end = holds_next most (limit + most + most) other.result.0 last.result.0 ((before ++ row.result.1 ∷ []) ++ other.result.1 ∷ []) (base + off.result.1) _ last.result.1 c.args.third.now three ((pairs ++ one ∷ []) ++ two ∷ []) (omega (arith, c.requires.light)) third (light 2 one (omega arith)) last.ensures later in
    let room = rw (← c.self.view_is) at c.requires.room in
    let within : held + 3 ≤ length items = omega (arith, room, c.self.inside.rows.ok.0, length-take held items) in
    holds_as most last.result.0 _ _ (base + off.result.1) _ _ _ _ (three_rows items held row.result.1 other.result.1 last.result.1 within) (ap (λ n. base + n) c.from.ensures)
    (ap (λ front. front ++ three ∷ []) (append_assoc pairs (one ∷ []) (two ∷ [])) ∙ append_assoc pairs (one ∷ two ∷ []) (three ∷ []))
    end.0
