-- The lists that end in six zeros are those that lead to state 0.
use Rattle.std.proofs.Common.{◌≡◌, ℕ, ◌-◌, ◌≤◌, List, length, refl, sym, ◌∙◌, arith}
use Rattle.conv_code.specs.Code.{earlier}
use Rattle.conv_code.specs.States.{state_before}
use Rattle.conv_code.proofs.Inputs.{earlier_inside}
use Rattle.survivor_memory.specs.declared.PairCosts.{PairCosts}
use Rattle.survivor_memory.specs.Nearest.{IsClosed, IsNearest}
use Rattle.survivor_memory.specs.Survivors.{LeadsTo}
use Rattle.survivor_memory.proofs.Merge.{IsSurvivor}
use Rattle.survivor_memory.proofs.Order.{one_to_six}

-- a list that ends in six zeros leads to state 0
pub leads_from_closed : (n : ℕ) (u : List ℕ) → 6 ≤ n → IsClosed n u → LeadsTo n 0 u
unfolding state_before
leads_from_closed n u some closed =
    let at : (k : ℕ) → 1 ≤ k → k ≤ 6 → earlier u n k ≡ 0 = λ k low high. earlier_inside u n k (omega arith) ∙ closed.tail (n - k) (omega arith) (omega arith) in
    record {
      long = closed.long;
      bits = closed.bits;
      ends = rw (at 1 (omega arith) (omega arith), at 2 (omega arith) (omega arith), at 3 (omega arith) (omega arith), at 4 (omega arith) (omega arith), at 5 (omega arith) (omega arith), at 6 (omega arith) (omega arith)) refl;
    }

-- before state 0 the last six inputs are 0
inputs_before_zero : (u : List ℕ) (n : ℕ) → state_before u n ≡ 0 → (k : ℕ) → 1 ≤ k → k ≤ 6 → earlier u n k ≡ 0
unfolding state_before
inputs_before_zero u n e = one_to_six (λ k. earlier u n k ≡ 0) (omega arith) (omega arith) (omega arith) (omega arith) (omega arith) (omega arith)

-- and a list that leads to state 0 ends in six zeros
pub closed_from_leads : (n : ℕ) (u : List ℕ) → 6 ≤ n → LeadsTo n 0 u → IsClosed n u
closed_from_leads n u some leads = record {
  long = leads.long;
  bits = leads.bits;
  tail = λ place within last.
      let back : n - (n - place) ≡ place = omega arith in
      rw back at (sym (earlier_inside u n (n - place) (omega arith)) ∙ inputs_before_zero u n leads.ends (n - place) (omega arith) (omega arith));
}

-- so the survivor of state 0 is the nearest list
pub nearest_from_survivor : (n : ℕ) (pairs : List PairCosts) (u : List ℕ) (least : ℕ) → 6 ≤ n → length pairs ≡ n → IsSurvivor n 0 pairs u least → IsNearest pairs u least
nearest_from_survivor n pairs u least some count best =
    rw count
    (record {
      of_kind = closed_from_leads n u some best.of_kind;
      costs = best.costs;
      none_less = λ v closed. best.none_less v (leads_from_closed n v some closed);
      comes_first = λ v closed. best.comes_first v (leads_from_closed n v some closed);
    })
