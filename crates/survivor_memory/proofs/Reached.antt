-- Whether a list of so many bits leads to a state.
use Rattle.std.proofs.Common.{◌≡◌, ℕ, zero, suc, ◌+◌, ◌/◌, ◌%◌, ◌<◌, List, [], ◌∷◌, ◌++◌, sym, ◌∙◌, ◌⊎◌, inl, inr, arith, add-one}
use Rattle.std.proofs.lemmas.Bool.{cases_eq}
use Rattle.survivor_memory.specs.Survivors.{LeadsTo}
use Rattle.survivor_memory.proofs.Leading.{leads-nil, leads_push, leads_lt, cut, came_from, goes_to_low, goes_to_high, state_before-zero}

-- some list of so many bits leads to a state
pub record IsReached (n s : ℕ) : Type 0 where
  pub list : List ℕ
  pub leads : LeadsTo n s list

-- none does
abbrev pub IsUnreached : ℕ → ℕ → Type 0
IsUnreached n s = (u : List ℕ) → ¬ LeadsTo n s u

-- a state is reached from either of its predecessors
pub reached_from_low : (n s : ℕ) → s < 64 → IsReached n (s / 2) → IsReached (n + 1) s
reached_from_low n s h from =
    record { list = from.list ++ s % 2 ∷ []; leads = rw (goes_to_low s h) at (leads_push n (s / 2) (s % 2) from.list from.leads (omega arith)) }

pub reached_from_high : (n s : ℕ) → s < 64 → IsReached n (s / 2 + 32) → IsReached (n + 1) s
reached_from_high n s h from =
    record { list = from.list ++ s % 2 ∷ []; leads = rw (goes_to_high s h) at (leads_push n (s / 2 + 32) (s % 2) from.list from.leads (omega arith)) }

-- and from no other
pub unreached_from_neither : (n s : ℕ) → IsUnreached n (s / 2) → IsUnreached n (s / 2 + 32) → IsUnreached (n + 1) s
unreached_from_neither n s low high w leads =
    let c = cut n s w leads in
    let from = came_from c.before c.input s (leads_lt c.leads) c.bit c.after in
    elim from.1 [
      | inl e ↦ low c.front (rw e at c.leads)
      | inr e ↦ high c.front (rw e at c.leads)
    ]

-- without an input only state 0 is reached
unreached_at_start : (s : ℕ) → (s ≡ 0 → ⊥) → IsUnreached 0 s
unreached_at_start s other u leads = other (sym leads.ends ∙ state_before-zero u)

-- so a state is reached or not
pub is_reached : (n s : ℕ) → s < 64 → IsReached n s ⊎ IsUnreached n s
is_reached zero s h =
    elim (cases_eq s 0) [
      | inl e ↦ inl (record { list = []; leads = rw e leads-nil })
      | inr other ↦ inr (unreached_at_start s other)
    ]
is_reached (suc n) s h =
    rw (← add-one n)
    (elim (is_reached n (s / 2) (omega arith)) [
      | inl from ↦ inl (reached_from_low n s h from)
      | inr low ↦ elim (is_reached n (s / 2 + 32) (omega arith)) [
        | inl from ↦ inl (reached_from_high n s h from)
        | inr high ↦ inr (unreached_from_neither n s low high)
      ]
    ])
