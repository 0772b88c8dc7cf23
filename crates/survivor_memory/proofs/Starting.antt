-- The memory of no pairs.
use Rattle.std.proofs.Common.{◌≡◌, ℕ, zero, suc, ◌<◌, ◌≤◌, List, [], ◌∷◌, get_or, replicate, refl, ap, sym, ◌∙◌, inl, inr, arith}
use Rattle.std.proofs.lemmas.Bool.{cases_eq}
use Rattle.std.proofs.lemmas.List.{nil_from_length}
use Rattle.std.proofs.lemmas.List.Elements.{All-nil, All-cons, All-replicate}
use Rattle.std.proofs.lemmas.Simd.{get_or-replicate}
use Rattle.survivor_memory.specs.Costs.{most_cost}
use Rattle.survivor_memory.specs.Survivors.{AreEntries, MemoryView, Holds, LeadsTo, followed}
use Rattle.survivor_memory.proofs.Leading.{leads-nil, state_before-zero}
use Rattle.survivor_memory.proofs.Merge.{IsSurvivor}
use Rattle.survivor_memory.proofs.Sums.{cost_is, cost_from-nil}

-- the survivor of state 0 is the empty list
pub nil_survives : IsSurvivor 0 0 [] [] 0
nil_survives = record {
  of_kind = leads-nil;
  costs = cost_is [] [] ∙ cost_from-nil 0 [];
  none_less = λ v leads. omega arith;
  comes_first = λ v leads same. inl (sym (nil_from_length v leads.long));
}

-- which back bits give
followed_survives : (rows : List ℕ) → IsSurvivor 0 0 [] (followed rows 0 0) 0
unfolding followed
followed_survives rows = nil_survives

-- no other state is reached
pub leads_at_start : (s : ℕ) (u : List ℕ) → LeadsTo 0 s u → s ≡ 0
leads_at_start s u leads = sym leads.ends ∙ state_before-zero u

pub holds_none : (most : ℕ) (memory : MemoryView) → memory.entries ≡ 0 ∷ replicate 63 255 → memory.base ≡ 0 → memory.rows ≡ [] → Holds most memory []
holds_none most memory entries base rows =
    let first : get_or memory.entries 0 0 ≡ 0 = ap (λ xs. get_or {A = ℕ} xs 0 0) entries in
    record {
      held = rw rows;
      light = All-nil (λ pair. most_cost pair ≤ most);
      survivors = λ s u leads. rw (leads_at_start s u leads, first, base) (followed_survives memory.rows);
      no_list = λ s below none. elim (cases_eq s 0) [
        | inl e ↦ absurd (none [] (rw e leads-nil))
        | inr other ↦ rw entries (full_behind s below other)
      ];
      low = (0, omega arith, omega arith);
    }
  where
    full_behind : (s : ℕ) → s < 64 → (s ≡ 0 → ⊥) → get_or {A = ℕ} (0 ∷ replicate 63 255) s 0 ≡ 255
    full_behind zero below other = absurd (other refl)
    full_behind (suc s) below other = get_or-replicate {A = ℕ} 63 s 255 0 (omega arith)

-- the entries before any pair are at most 255
pub AreEntries-start : (entries : List ℕ) → entries ≡ 0 ∷ replicate 63 255 → AreEntries entries
AreEntries-start entries e =
    let most : 255 ≤ 255 = omega arith in
    let none : 0 ≤ 255 = omega arith in
    rw e (All-cons (λ entry. entry ≤ 255) 0 (replicate 63 255) none (All-replicate (λ entry. entry ≤ 255) 63 255 most))
