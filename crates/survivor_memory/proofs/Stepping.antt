-- A memory one pair on.
use Rattle.std.proofs.Common.{◌≡◌, ℕ, zero, suc, ◌+◌, ◌-◌, ◌*◌, ◌/◌, ◌%◌, ◌<◌, ◌≤◌, List, [], ◌∷◌, ◌++◌, length, get_or, replicate, min, refl, ap, add-one, ◌∙◌, ◌⊎◌, inl, inr, arith}
use Rattle.std.specs.Int.{bit_at}
use Rattle.std.proofs.lemmas.Bool.{cases_lt}
use Rattle.std.proofs.lemmas.List.{length_push, replicate_more}
use Rattle.std.proofs.lemmas.List.Elements.{All-push}
use Rattle.survivor_memory.specs.declared.PairCosts.{PairCosts}
use Rattle.survivor_memory.specs.Costs.{most_cost}
use Rattle.survivor_memory.specs.Survivors.{MemoryView, HasEntryAtMost, Holds, LeadsTo, followed}
use Rattle.survivor_memory.proofs.Holding.{entry_le, followed_push}
use Rattle.survivor_memory.proofs.Leading.{branch_cost, branch_cost_le, leads-nil, leads_push, leads_lt, cut, came_from, goes_to_low, goes_to_high}
use Rattle.survivor_memory.proofs.Merge.{IsSurvivor, low_goes_on, high_goes_on}
use Rattle.survivor_memory.proofs.Reached.{IsUnreached, is_reached}

-- what a step does to a memory: the sums through the lower and the higher predecessor of each state, held at 255; a back bit

pub record Stepped (most : ℕ) (pair : PairCosts) (old new : MemoryView) : Type 0 where
  pub low : ℕ → ℕ
  pub high : ℕ → ℕ
  pub row : ℕ
  pub least : ℕ
  pub low_is : (s : ℕ) → s < 64 → low s ≡ min 255 (get_or old.entries (s / 2) 0 + branch_cost pair (s / 2) (s % 2))
  pub high_is : (s : ℕ) → s < 64 → high s ≡ min 255 (get_or old.entries (s / 2 + 32) 0 + branch_cost pair (s / 2 + 32) (s % 2))
  pub low_wins : (s : ℕ) → s < 64 → low s ≤ high s → bit_at row s ≡ 0
  pub high_wins : (s : ℕ) → s < 64 → high s < low s → bit_at row s ≡ 1
  pub least_le : (s : ℕ) → s < 64 → least ≤ min (low s) (high s)
  pub lowered : (s : ℕ) → s < 64 → min (low s) (high s) < 255 → get_or new.entries s 0 ≡ min (low s) (high s) - least
  pub kept : (s : ℕ) → s < 64 → min (low s) (high s) ≡ 255 → get_or new.entries s 0 ≡ 255
  pub rows : new.rows ≡ old.rows ++ row ∷ []
  pub base : new.base ≡ old.base + least

-- state 0 is always reached
leads_by_zeros : (n : ℕ) → LeadsTo n 0 (replicate n 0)
leads_by_zeros zero = leads-nil
leads_by_zeros (suc n) =
    let next : LeadsTo (n + 1) 0 (replicate (n + 1) 0) = rw (replicate_more {X = ℕ} n 0) at (leads_push n 0 0 (replicate n 0) (leads_by_zeros n) (omega arith)) in
    rw (add-one n) at next

module _ (most : ℕ) (pair : PairCosts) (old new : MemoryView) (pairs : List PairCosts)
    (step : Stepped most pair old new) (few : 7 * most < 255) (light : most_cost pair ≤ most) (holds : Holds most old pairs)
  where
    -- the sum through a predecessor that a list leads to is exact
    low_exact : (s : ℕ) (v : List ℕ) → s < 64 → LeadsTo (length pairs) (s / 2) v → (step.low s ≡ get_or old.entries (s / 2) 0 + branch_cost pair (s / 2) (s % 2)) × (step.low s ≤ 254)
    low_exact s v h leads =
        let entry = entry_le most old pairs few holds (s / 2) v (omega arith) leads in
        let branch = branch_cost_le pair (s / 2) (s % 2) in
        let sum = step.low_is s h in
        (omega arith, omega arith)

    high_exact : (s : ℕ) (v : List ℕ) → s < 64 → LeadsTo (length pairs) (s / 2 + 32) v → (step.high s ≡ get_or old.entries (s / 2 + 32) 0 + branch_cost pair (s / 2 + 32) (s % 2)) × (step.high s ≤ 254)
    high_exact s v h leads =
        let entry = entry_le most old pairs few holds (s / 2 + 32) v (omega arith) leads in
        let branch = branch_cost_le pair (s / 2 + 32) (s % 2) in
        let sum = step.high_is s h in
        (omega arith, omega arith)

    -- and through any other it is 255
    low_full : (s : ℕ) → s < 64 → IsUnreached (length pairs) (s / 2) → step.low s ≡ 255
    low_full s h none = omega (arith, step.low_is s h, holds.no_list (s / 2) (omega arith) none)

    high_full : (s : ℕ) → s < 64 → IsUnreached (length pairs) (s / 2 + 32) → step.high s ≡ 255
    high_full s h none = omega (arith, step.high_is s h, holds.no_list (s / 2 + 32) (omega arith) none)

    -- the lists that the new back bits give
    followed_low : (s : ℕ) → s < 64 → step.low s ≤ step.high s → followed new.rows (length pairs + 1) s ≡ followed old.rows (length pairs) (s / 2) ++ s % 2 ∷ []
    followed_low s h wins =
        let before : s / 2 + 32 * bit_at step.row s ≡ s / 2 = rw (step.low_wins s h wins) (omega arith) in
        rw step.rows (rw before at (followed_push old.rows step.row (length pairs) s holds.held))

    followed_high : (s : ℕ) → s < 64 → step.high s < step.low s → followed new.rows (length pairs + 1) s ≡ followed old.rows (length pairs) (s / 2 + 32) ++ s % 2 ∷ []
    followed_high s h wins =
        let before : s / 2 + 32 * bit_at step.row s ≡ s / 2 + 32 = rw (step.high_wins s h wins) (omega arith) in
        rw step.rows (rw before at (followed_push old.rows step.row (length pairs) s holds.held))

    -- the survivor of a state where the lower sum is the lesser, or both are the same
    low_survives : (s : ℕ) (v : List ℕ) → s < 64 → LeadsTo (length pairs) (s / 2) v → step.low s ≤ step.high s
        → IsSurvivor (length pairs + 1) s (pairs ++ pair ∷ []) (followed new.rows (length pairs + 1) s) (get_or new.entries s 0 + new.base)
    low_survives s v h leads wins =
        let exact = low_exact s v h leads in
        let same : get_or new.entries s 0 + new.base ≡ get_or old.entries (s / 2) 0 + old.base + branch_cost pair (s / 2) (s % 2) =
        omega (arith, step.lowered s h (omega arith), step.least_le s h, step.base, exact) in
        rw (followed_low s h wins, same)
        (low_goes_on (length pairs) s (get_or old.entries (s / 2) 0 + old.base) pairs pair (followed old.rows (length pairs) (s / 2)) refl h (holds.survivors (s / 2) v leads)
        (λ w other. omega (arith, (holds.survivors (s / 2 + 32) w other).none_less w other, high_exact s w h other, exact, wins)))

    -- and where the higher is less
    high_survives : (s : ℕ) (v : List ℕ) → s < 64 → LeadsTo (length pairs) (s / 2 + 32) v → step.high s < step.low s
        → IsSurvivor (length pairs + 1) s (pairs ++ pair ∷ []) (followed new.rows (length pairs + 1) s) (get_or new.entries s 0 + new.base)
    high_survives s v h leads wins =
        let exact = high_exact s v h leads in
        let same : get_or new.entries s 0 + new.base ≡ get_or old.entries (s / 2 + 32) 0 + old.base + branch_cost pair (s / 2 + 32) (s % 2) =
        omega (arith, step.lowered s h (omega arith), step.least_le s h, step.base, exact) in
        rw (followed_high s h wins, same)
        (high_goes_on (length pairs) s (get_or old.entries (s / 2 + 32) 0 + old.base) pairs pair (followed old.rows (length pairs) (s / 2 + 32)) refl h (holds.survivors (s / 2 + 32) v leads)
        (λ w other. omega (arith, (holds.survivors (s / 2) w other).none_less w other, low_exact s w h other, exact, wins)))

    -- the survivor of any state that is reached
    survives : (s : ℕ) (w : List ℕ) → LeadsTo (length pairs + 1) s w
        → IsSurvivor (length pairs + 1) s (pairs ++ pair ∷ []) (followed new.rows (length pairs + 1) s) (get_or new.entries s 0 + new.base)
    survives s w leads =
        let h = leads_lt leads in
        let c = cut (length pairs) s w leads in
        let from = came_from c.before c.input s (leads_lt c.leads) c.bit c.after in
        elim (cases_lt (step.high s) (step.low s)) [
          | inl higher ↦ elim (is_reached (length pairs) (s / 2 + 32) (omega arith)) [
            | inl found ↦ high_survives s found.list h found.leads higher
            | inr none ↦ elim from.1 [
              | inl e ↦ absurd (omega (arith, high_full s h none, low_exact s c.front h (rw e at c.leads)))
              | inr e ↦ absurd (none c.front (rw e at c.leads))
            ]
          ]
          | inr lower ↦ elim (is_reached (length pairs) (s / 2) (omega arith)) [
            | inl found ↦ low_survives s found.list h found.leads lower
            | inr none ↦ elim from.1 [
              | inl e ↦ absurd (none c.front (rw e at c.leads))
              | inr e ↦ absurd (omega (arith, low_full s h none, high_exact s c.front h (rw e at c.leads)))
            ]
          ]
        ]

    -- the entry of any other
    stays_full : (s : ℕ) → s < 64 → IsUnreached (length pairs + 1) s → get_or new.entries s 0 ≡ 255
    stays_full s h none =
        let low : IsUnreached (length pairs) (s / 2) = λ v leads. none (v ++ s % 2 ∷ []) (rw (goes_to_low s h) at (leads_push (length pairs) (s / 2) (s % 2) v leads (omega arith))) in
        let high : IsUnreached (length pairs) (s / 2 + 32) = λ v leads. none (v ++ s % 2 ∷ []) (rw (goes_to_high s h) at (leads_push (length pairs) (s / 2 + 32) (s % 2) v leads (omega arith))) in
        step.kept s h (omega (arith, low_full s h low, high_full s h high))

    -- some entry is low, where one was, or the least is taken off
    some_low : ((s : ℕ) × (s < 64) × (min (step.low s) (step.high s) ≤ 254 - 7 * most)) ⊎ ((s : ℕ) × (s < 64) × (min (step.low s) (step.high s) ≡ step.least)) → HasEntryAtMost (254 - 7 * most) new.entries
    some_low low_at =
        let start = low_exact 0 (replicate (length pairs) 0) (omega arith) (leads_by_zeros (length pairs)) in
        elim low_at [
          | inl some ↦
              let (s, h, low) = some in
              (s, h, omega (arith, step.lowered s h (omega arith), low))
          | inr found ↦
              let (s, h, least) = found in
              (s, h, omega (arith, step.lowered s h (omega (arith, least, step.least_le 0 (omega arith), start)), least))
        ]

    pub holds_push : HasEntryAtMost (254 - 7 * most) new.entries → Holds most new (pairs ++ pair ∷ [])
    holds_push low =
        let more : length (pairs ++ pair ∷ []) ≡ length pairs + 1 = length_push pairs pair in
        record {
          held = rw (step.rows, more) (length_push old.rows step.row ∙ ap (λ n. n + 1) holds.held);
          light = All-push (λ pair. most_cost pair ≤ most) pairs pair holds.light light;
          survivors = rw more survives;
          no_list = rw more stays_full;
          low = low;
        }

    pub holds_push_lowered : ((s : ℕ) × (s < 64) × (min (step.low s) (step.high s) ≤ 254 - 7 * most)) ⊎ ((s : ℕ) × (s < 64) × (min (step.low s) (step.high s) ≡ step.least)) → Holds most new (pairs ++ pair ∷ [])
    holds_push_lowered low_at = holds_push (some_low low_at)
