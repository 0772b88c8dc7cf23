use Rattle.std.proofs.Common.{◌≡◌, ℕ, ◌<◌, get_or, min, ◌∙◌, arith}
use Rattle.survivor_memory.specs.Survivors.{through_lower, through_higher}
use Rattle.survivor_memory.proofs.lanes.next_entries.Goals as goal

pub returns : goal.returns
returns c =
    let lower : (s : ℕ) → s < 64 → get_or c.sums-lower.result s 0 ≡ through_lower c.args.entries c.args.from_lower s = λ s h. c.sums-lower.ensures s h ∙ rw (c.predecessors.ensures.lower s h) in
    let higher : (s : ℕ) → s < 64 → get_or c.sums-higher.result s 0 ≡ through_higher c.args.entries c.args.from_higher s = λ s h. c.sums-higher.ensures s h ∙ rw (c.predecessors.ensures.higher s h) in
    let best : (s : ℕ) → s < 64 → get_or c.lesser-best.result s 0 ≡ min (through_lower c.args.entries c.args.from_lower s) (through_higher c.args.entries c.args.from_higher s) = λ s h. c.lesser-best.ensures s h ∙ rw (lower s h, higher s h) in
    record {
      least = best;
      lower = λ s h less. c.differing.ensures.clear s h (omega (arith, lower s h, best s h, less));
      higher = λ s h less. c.differing.ensures.set s h (λ same. omega (arith, lower s h, best s h, less, same));
    }
