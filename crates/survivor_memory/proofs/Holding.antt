-- What follows from what a memory stands for.
use Rattle.std.proofs.Common.{◌≡◌, ℕ, zero, suc, ◌+◌, ◌*◌, ◌/◌, ◌%◌, ◌<◌, ◌≤◌, List, [], ◌∷◌, ◌++◌, length, get_or, replicate, refl, add-one, mul-le-mul_right, inl, inr, arith}
use Rattle.std.specs.Prelude.{All}
use Rattle.std.specs.Int.{bit_at}
use Rattle.std.proofs.lemmas.Bool.{cases_lt}
use Rattle.std.proofs.lemmas.List.{length-replicate, get_or_push, get_or_append_left}
use Rattle.std.proofs.lemmas.List.Elements.{All-replicate}
use Rattle.bit_lists.specs.Bits.{IsBit}
use Rattle.survivor_memory.specs.declared.PairCosts.{PairCosts}
use Rattle.survivor_memory.specs.Costs.{most_cost}
use Rattle.survivor_memory.specs.Nearest.{IsNearest}
use Rattle.survivor_memory.specs.Survivors.{MemoryView, Holds, LeadsTo, followed, DifferByAtMost}
use Rattle.survivor_memory.proofs.Closing.{nearest_from_survivor}
use Rattle.survivor_memory.proofs.Sums.{cost_is, cost_from, cost_from_le}
use Rattle.survivor_memory.proofs.Spread.{redirected, leads_redirected, cost_redirected}

-- from six inputs on every state is reached
pub leads_to_any : (n s : ℕ) → 6 ≤ n → s < 64 → LeadsTo n s (redirected n s (replicate n 0))
leads_to_any n s some h =
    let zero_bit : IsBit 0 = omega arith in
    leads_redirected n s (replicate n 0) some (length-replicate n 0) (All-replicate IsBit n 0 zero_bit) h

-- then the entries differ by at most what six pairs can cost
pub entries_differ : (most : ℕ) (memory : MemoryView) (pairs : List PairCosts) (bound : ℕ) → Holds most memory pairs → All (λ pair. most_cost pair ≤ bound) pairs → 6 ≤ length pairs → DifferByAtMost (6 * bound) memory.entries
entries_differ most memory pairs bound holds all some s t hs ht =
    let n = length pairs in
    let best = holds.survivors t (redirected n t (replicate n 0)) (leads_to_any n t some ht) in
    let u = followed memory.rows n t in
    let leads : LeadsTo n s (redirected n s u) = leads_redirected n s u some best.of_kind.long best.of_kind.bits hs in
    let here = holds.survivors s (redirected n s u) leads in
    omega (arith, here.none_less (redirected n s u) leads, cost_redirected bound n s pairs u all refl some best.of_kind.long, best.costs)

-- fewer than six pairs cost at most five times the most
few_cost : (most count total : ℕ) → count < 6 → total ≤ count * most → total ≤ 5 * most
few_cost most count total few within = omega (arith, mul-le-mul_right {m = count} {n = 5} most (omega arith))

-- the entry of a state that a list leads to leaves room for one more pair below 255
pub entry_le : (most : ℕ) (memory : MemoryView) (pairs : List PairCosts) → 7 * most < 255 → Holds most memory pairs → (s : ℕ) (u : List ℕ) → s < 64 → LeadsTo (length pairs) s u → get_or memory.entries s 0 + most ≤ 254
entry_le most memory pairs light holds s u h leads =
    elim (cases_lt (length pairs) 6) [
      | inl few ↦
          let costs = few_cost most (length pairs) (cost_from 0 pairs u) few (cost_from_le most u 0 pairs holds.light) in
          omega (arith, (holds.survivors s u leads).none_less u leads, cost_is pairs u, costs)
      | inr some ↦
          let (least, below, is_low) = holds.low in
          omega (arith, entries_differ most memory pairs most holds holds.light some s least h below, is_low)
    ]

-- the list that a memory's back bits give from state 0 is the nearest
pub nearest_from_holds : (most : ℕ) (memory : MemoryView) (pairs : List PairCosts) → Holds most memory pairs → 6 ≤ length pairs → IsNearest pairs (followed memory.rows (length pairs) 0) (get_or memory.entries 0 0 + memory.base)
nearest_from_holds most memory pairs holds some =
    let n = length pairs in
    nearest_from_survivor n pairs (followed memory.rows n 0) (get_or memory.entries 0 0 + memory.base) some refl (holds.survivors 0 (redirected n 0 (replicate n 0)) (leads_to_any n 0 some (omega arith)))

-- back bits followed from a state read only the rows of the steps
followed_same : (rows more : List ℕ) (n : ℕ) → n ≤ length rows → (s : ℕ) → followed (rows ++ more) n s ≡ followed rows n s
unfolding followed
followed_same rows more zero h s = refl
followed_same rows more (suc n) h s =
    let row : get_or (rows ++ more) n 0 ≡ get_or rows n 0 = get_or_append_left rows more 0 n (omega arith) in
    rw (row, followed_same rows more n (omega arith))

-- one more row
pub followed_push : (rows : List ℕ) (row n s : ℕ) → length rows ≡ n → followed (rows ++ row ∷ []) (n + 1) s ≡ followed rows n (s / 2 + 32 * bit_at row s) ++ s % 2 ∷ []
unfolding followed
followed_push rows row n s long =
    rw (add-one, get_or_push rows row 0 n long, followed_same rows (row ∷ []) n (omega arith))
