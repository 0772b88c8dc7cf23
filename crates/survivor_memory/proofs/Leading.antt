-- Lists that lead to a state, and one more input.
use Rattle.std.proofs.Common.{◌≡◌, ℕ, ◌+◌, ◌/◌, ◌%◌, ◌<◌, ◌≤◌, List, [], ◌∷◌, ◌++◌, length, get_or, take, refl, sym, add-zero, zero-add, ◌∙◌, ◌⊎◌, arith}
use Rattle.std.proofs.lemmas.List.{length_push, get_or_push, length-take-le, take_more, take_all}
use Rattle.std.proofs.lemmas.List.Elements.{All-nil, All-cons, All-append, All-take}
use Rattle.bit_lists.specs.Bits.{IsBit, AreBits}
use Rattle.conv_code.specs.Code.{parity_a, parity_b}
use Rattle.conv_code.specs.States.{state_before, state_after, branch_a, branch_b}
use Rattle.conv_code.proofs.Inputs.{earlier_before, state_before-lt, state_before-more, branch_a_along, branch_b_along}
use Rattle.survivor_memory.specs.declared.PairCosts.{PairCosts}
use Rattle.survivor_memory.specs.Costs.{price, cost, most_cost}
use Rattle.survivor_memory.specs.Survivors.{LeadsTo}
use Rattle.survivor_memory.proofs.Prefixes.{SameBelow, SameBelow-take, SameBelow-append, state_before_same}
use Rattle.survivor_memory.proofs.Sums.{price_le, cost_is, cost_from-nil, cost_from-cons, cost_from-append, cost_from_same}

-- before the first place all inputs are 0
pub state_before-zero : (u : List ℕ) → state_before u 0 ≡ 0
unfolding state_before
state_before-zero u =
    rw (earlier_before u 0 1 (omega arith), earlier_before u 0 2 (omega arith), earlier_before u 0 3 (omega arith), earlier_before u 0 4 (omega arith), earlier_before u 0 5 (omega arith), earlier_before u 0 6 (omega arith)) refl

-- no list leads to a number past the states
pub leads_lt : {n s : ℕ} {u : List ℕ} → LeadsTo n s u → s < 64
leads_lt {n} {s} {u} leads = rw leads.ends at (state_before-lt u n leads.bits)

-- the empty list leads to state 0
pub leads-nil : LeadsTo 0 0 []
leads-nil = record { long = refl; bits = All-nil IsBit; ends = state_before-zero [] }

-- one more input
pub leads_push : (n t x : ℕ) (u : List ℕ) → LeadsTo n t u → IsBit x → LeadsTo (n + 1) (state_after t x) (u ++ x ∷ [])
leads_push n t x u leads bit =
    let w = u ++ x ∷ [] in
    let long : length u ≡ n = leads.long in
    let bits : AreBits w = All-append IsBit u (x ∷ []) leads.bits (All-cons IsBit x [] bit (All-nil IsBit)) in
    let same : SameBelow n u w = rw long at (SameBelow-append u (x ∷ [])) in
    let before : state_before w n ≡ t = sym (state_before_same n u w same n (omega arith)) ∙ leads.ends in
    let input : get_or w n 0 ≡ x = get_or_push u x 0 n long in
    record {
      long = omega (arith, length_push u x);
      bits = bits;
      ends = rw (before, input) at (sym (state_before-more w n bits));
    }

-- a list of one more bit, cut before its last
pub record Cut (n s : ℕ) (w : List ℕ) : Type 0 where
  pub front : List ℕ
  pub input : ℕ
  pub before : ℕ
  pub leads : LeadsTo n before front
  pub bit : IsBit input
  pub whole : w ≡ front ++ input ∷ []
  pub after : state_after before input ≡ s

pub cut : (n s : ℕ) (w : List ℕ) → LeadsTo (n + 1) s w → Cut n s w
cut n s w leads =
    let long : length w ≡ n + 1 = leads.long in
    let front_long : length (take n w) ≡ n = length-take-le n w (omega arith) in
    let front_bits : AreBits (take n w) = All-take IsBit n w leads.bits in
    let bit : IsBit (get_or w n 0) = leads.bits n 0 (omega arith) in
    record {
      front = take n w;
      input = get_or w n 0;
      before = state_before w n;
      leads = record { long = front_long; bits = front_bits; ends = state_before_same n (take n w) w (SameBelow-take n w) n (omega arith) };
      bit = bit;
      whole = sym (take_all (n + 1) w (omega arith)) ∙ take_more w n 0 (omega arith);
      after = state_before-more w n leads.bits ∙ leads.ends;
    }

-- the states that a step leads to a state from, and its input
pub came_from : (t x s : ℕ) → t < 64 → x < 2 → state_after t x ≡ s → (x ≡ s % 2) × ((t ≡ s / 2) ⊎ (t ≡ s / 2 + 32))
came_from t x s p q e = (omega arith, grind arith)

-- and back
pub goes_to_low : (s : ℕ) → s < 64 → state_after (s / 2) (s % 2) ≡ s
goes_to_low s p = omega arith

pub goes_to_high : (s : ℕ) → s < 64 → state_after (s / 2 + 32) (s % 2) ≡ s
goes_to_high s p = omega arith

-- what a step from a state with an input costs
pub branch_cost : PairCosts → ℕ → ℕ → ℕ
branch_cost pair t x = price pair (branch_a t x) (branch_b t x)

pub branch_cost_is : (pair : PairCosts) (t x : ℕ) → branch_cost pair t x ≡ price pair (branch_a t x) (branch_b t x)
unfolding branch_cost
branch_cost_is pair t x = refl

pub branch_cost_le : (pair : PairCosts) (t x : ℕ) → branch_cost pair t x ≤ most_cost pair
unfolding branch_cost
branch_cost_le pair t x = price_le pair (branch_a t x) (branch_b t x)

-- along a list
branch_cost_along : (w : List ℕ) (n : ℕ) (pair : PairCosts) → AreBits w → branch_cost pair (state_before w n) (get_or w n 0) ≡ price pair (parity_a w n) (parity_b w n)
unfolding branch_cost
branch_cost_along w n pair bits = rw (branch_a_along w n bits, branch_b_along w n bits)

-- one more pair and one more input cost what the step costs
pub cost_push : (n t x : ℕ) (u : List ℕ) (pairs : List PairCosts) (pair : PairCosts) → length pairs ≡ n → LeadsTo n t u → IsBit x → cost (pairs ++ pair ∷ []) (u ++ x ∷ []) ≡ cost pairs u + branch_cost pair t x
cost_push n t x u pairs pair count leads bit =
    let w = u ++ x ∷ [] in
    let long : length u ≡ n = leads.long in
    let bits : AreBits w = (leads_push n t x u leads bit).bits in
    let same : SameBelow n u w = rw long at (SameBelow-append u (x ∷ [])) in
    let before : state_before w n ≡ t = sym (state_before_same n u w same n (omega arith)) ∙ leads.ends in
    let input : get_or w n 0 ≡ x = get_or_push u x 0 n long in
    let last = rw (before, input) at (branch_cost_along w n pair bits) in
    rw (cost_is (pairs ++ pair ∷ []) w, cost_is pairs u, cost_from-append 0 pairs (pair ∷ []) w, count, zero-add, cost_from-cons n pair [] w, cost_from-nil, add-zero, ← cost_from_same n u w same 0 pairs (omega arith), ← last)
