-- The survivor of a state one pair on.
use Rattle.std.proofs.Common.{◌≡◌, ℕ, ◌+◌, ◌/◌, ◌%◌, ◌<◌, ◌≤◌, List, [], ◌∷◌, ◌++◌, length, ap, ◌∙◌, ◌⊎◌, inl, inr, arith}
use Rattle.conv_code.specs.States.{state_after}
use Rattle.survivor_memory.specs.declared.PairCosts.{PairCosts}
use Rattle.survivor_memory.specs.Costs.{cost}
use Rattle.survivor_memory.specs.Nearest.{ComesBefore, IsFirstOfLeast}
use Rattle.survivor_memory.specs.Survivors.{LeadsTo}
use Rattle.survivor_memory.proofs.Leading.{branch_cost, leads_push, leads_lt, cut, came_from, goes_to_low, goes_to_high, cost_push}
use Rattle.survivor_memory.proofs.Order.{not_after_push, comes_before_push, comes_before_six_ago}

-- the survivor of a state: of the lists that lead to it, the first of least cost
abbrev pub IsSurvivor : ℕ → ℕ → List PairCosts → List ℕ → ℕ → Type 0
IsSurvivor n s pairs u least = IsFirstOfLeast (LeadsTo n s) (cost pairs) u least

-- a list to a state one pair on, cut before its last input
record Longer (n s : ℕ) (pairs : List PairCosts) (pair : PairCosts) (w : List ℕ) : Type 0 where
  front : List ℕ
  before : ℕ
  leads : LeadsTo n before front
  whole : w ≡ front ++ s % 2 ∷ []
  from : (before ≡ s / 2) ⊎ (before ≡ s / 2 + 32)
  costs : cost (pairs ++ pair ∷ []) w ≡ cost pairs front + branch_cost pair before (s % 2)

longer : (n s : ℕ) (pairs : List PairCosts) (pair : PairCosts) (w : List ℕ) → length pairs ≡ n → LeadsTo (n + 1) s w → Longer n s pairs pair w
longer n s pairs pair w count leads =
    let c = cut n s w leads in
    let from = came_from c.before c.input s (leads_lt c.leads) c.bit c.after in
    let whole : w ≡ c.front ++ s % 2 ∷ [] = rw (← from.0) c.whole in
    record {
      front = c.front;
      before = c.before;
      leads = c.leads;
      whole = whole;
      from = from.1;
      costs = ap (cost (pairs ++ pair ∷ [])) whole ∙ cost_push n c.before (s % 2) c.front pairs pair count c.leads (omega arith);
    }

-- The lists through one predecessor r have a survivor u that no list through the other, o, beats.
module _ (n s r o least : ℕ) (pairs : List PairCosts) (pair : PairCosts) (u : List ℕ)
    (count : length pairs ≡ n) (below : s < 64)
    (goes : state_after r (s % 2) ≡ s)
    (either : (t : ℕ) → (t ≡ s / 2) ⊎ (t ≡ s / 2 + 32) → (t ≡ r) ⊎ (t ≡ o))
    (best : IsSurvivor n r pairs u least)
    (no_less : (v : List ℕ) → LeadsTo n o v → least + branch_cost pair r (s % 2) ≤ cost pairs v + branch_cost pair o (s % 2))
    (before : (v : List ℕ) → LeadsTo n o v → cost pairs v + branch_cost pair o (s % 2) ≡ least + branch_cost pair r (s % 2) → ComesBefore u v)
  where
    no_longer_less : (w : List ℕ) → LeadsTo (n + 1) s w → least + branch_cost pair r (s % 2) ≤ cost (pairs ++ pair ∷ []) w
    no_longer_less w leads =
        let l = longer n s pairs pair w count leads in
        elim (either l.before l.from) [
          | inl e ↦ let costs = rw e at l.costs in omega (arith, best.none_less l.front (rw e at l.leads), costs)
          | inr e ↦ let costs = rw e at l.costs in omega (arith, no_less l.front (rw e at l.leads), costs)
        ]

    longer_comes_first : (w : List ℕ) → LeadsTo (n + 1) s w → cost (pairs ++ pair ∷ []) w ≡ least + branch_cost pair r (s % 2) → (u ++ s % 2 ∷ [] ≡ w) ⊎ ComesBefore (u ++ s % 2 ∷ []) w
    longer_comes_first w leads same =
        let l = longer n s pairs pair w count leads in
        let long : length u ≡ length l.front = omega (arith, best.of_kind.long, l.leads.long) in
        rw l.whole
        (elim (either l.before l.from) [
          | inl e ↦ let costs = rw e at l.costs in not_after_push u l.front (s % 2) long (best.comes_first l.front (rw e at l.leads) (omega (arith, costs, same)))
          | inr e ↦ let costs = rw e at l.costs in inr (comes_before_push u l.front (s % 2) long (before l.front (rw e at l.leads) (omega (arith, costs, same))))
        ])

    survivor_push : IsSurvivor (n + 1) s (pairs ++ pair ∷ []) (u ++ s % 2 ∷ []) (least + branch_cost pair r (s % 2))
    survivor_push = record {
      of_kind = rw goes at (leads_push n r (s % 2) u best.of_kind (omega arith));
      costs = rw (cost_push n r (s % 2) u pairs pair count best.of_kind (omega arith), best.costs);
      none_less = no_longer_less;
      comes_first = longer_comes_first;
    }

-- Where the survivor of the lower predecessor costs no more than the lists through the higher, it goes on: at a tie its input
-- six steps ago is 0, and theirs is 1.
pub low_goes_on : (n s least : ℕ) (pairs : List PairCosts) (pair : PairCosts) (u : List ℕ) → length pairs ≡ n → s < 64 → IsSurvivor n (s / 2) pairs u least
    → ((v : List ℕ) → LeadsTo n (s / 2 + 32) v → least + branch_cost pair (s / 2) (s % 2) ≤ cost pairs v + branch_cost pair (s / 2 + 32) (s % 2))
    → IsSurvivor (n + 1) s (pairs ++ pair ∷ []) (u ++ s % 2 ∷ []) (least + branch_cost pair (s / 2) (s % 2))
low_goes_on n s least pairs pair u count below best no_less =
    survivor_push n s (s / 2) (s / 2 + 32) least pairs pair u count below (goes_to_low s below) (λ t which. which) best no_less
    (λ v leads _. comes_before_six_ago n (s / 2) u v (omega arith) best.of_kind leads)

-- where the survivor of the higher predecessor costs less than the lists through the lower, that one goes on
pub high_goes_on : (n s least : ℕ) (pairs : List PairCosts) (pair : PairCosts) (u : List ℕ) → length pairs ≡ n → s < 64 → IsSurvivor n (s / 2 + 32) pairs u least
    → ((v : List ℕ) → LeadsTo n (s / 2) v → least + branch_cost pair (s / 2 + 32) (s % 2) < cost pairs v + branch_cost pair (s / 2) (s % 2))
    → IsSurvivor (n + 1) s (pairs ++ pair ∷ []) (u ++ s % 2 ∷ []) (least + branch_cost pair (s / 2 + 32) (s % 2))
high_goes_on n s least pairs pair u count below best less =
    survivor_push n s (s / 2 + 32) (s / 2) least pairs pair u count below (goes_to_high s below)
    (λ t which. elim which [ inl e ↦ inr e | inr e ↦ inl e ])
    best
    (λ v leads. omega (arith, less v leads))
    (λ v leads same. absurd (omega (arith, less v leads)))
