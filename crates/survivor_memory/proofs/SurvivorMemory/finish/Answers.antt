use Rattle.std.proofs.Common.{◌≡◌, ◌+◌, length, take, get_or, arith}
use Rattle.survivor_memory.specs.Survivors.{followed}
use Rattle.survivor_memory.proofs.Holding.{nearest_from_holds}
use Rattle.survivor_memory.proofs.SurvivorMemory.finish.Goals as goal

pub returns-clause-nearest : goal.returns-clause-nearest
returns-clause-nearest c = λ pairs most holds.
    let held = rw (← c.self.view_is) at holds in
    let rows = take c.self.inside.held c.self.inside.rows.items in
    let list : c.follow.new.out ≡ followed rows (length pairs) 0 = rw (← held.held, ← c.deref.ensures.value) c.follow.ensures.written in
    let cost : c.self.inside.base + c.from.result ≡ get_or c.self.inside.entries 0 0 + c.self.inside.base = omega (arith, c.from.ensures) in
    rw (list, cost) (nearest_from_holds most _ pairs held (omega (arith, holds.held)))
