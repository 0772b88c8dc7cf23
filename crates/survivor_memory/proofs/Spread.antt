-- How far the least costs of two states lie apart.
use Rattle.std.proofs.Common.{◌≡◌, ℕ, ◌+◌, ◌-◌, ◌*◌, ◌<◌, ◌≤◌, List, [], ◌∷◌, ◌++◌, length, get_or, take, drop, refl, sym, zero-add, ◌∙◌, arith}
use Rattle.std.specs.Prelude.{All}
use Rattle.std.specs.Int.{bit_at}
use Rattle.std.proofs.lemmas.List.{length-append, length-take-le, length-drop, get_or-append-add, take-append-drop}
use Rattle.std.proofs.lemmas.List.Elements.{All-map, All-append, All-take, All-drop}
use Rattle.std.proofs.lemmas.Nat.Bits.{bit_at-lt}
use Rattle.bit_lists.specs.Bits.{IsBit, AreBits}
use Rattle.conv_code.specs.Code.{earlier}
use Rattle.conv_code.specs.States.{state_before}
use Rattle.conv_code.proofs.Inputs.{earlier_inside}
use Rattle.survivor_memory.specs.declared.PairCosts.{PairCosts}
use Rattle.survivor_memory.specs.Costs.{cost, most_cost}
use Rattle.survivor_memory.specs.Survivors.{LeadsTo}
use Rattle.survivor_memory.proofs.Prefixes.{SameBelow, SameBelow-take, SameBelow-append}
use Rattle.survivor_memory.proofs.Sums.{cost_from, cost_is, cost_from-append, cost_from_same, cost_from_le}

-- the six inputs of a state, the oldest first
pub six_inputs : ℕ → List ℕ
six_inputs s = bit_at s 5 ∷ bit_at s 4 ∷ bit_at s 3 ∷ bit_at s 2 ∷ bit_at s 1 ∷ bit_at s 0 ∷ []

are_bits : (s : ℕ) → AreBits (six_inputs s)
unfolding six_inputs
are_bits s =
    let places : List ℕ = 5 ∷ 4 ∷ 3 ∷ 2 ∷ 1 ∷ 0 ∷ [] in
    All-map IsBit (bit_at s) places (λ k d _. bit_at-lt s (get_or places k d))

-- they make it up
sum_of_bits : (s : ℕ) → s < 64 → bit_at s 0 + 2 * bit_at s 1 + 4 * bit_at s 2 + 8 * bit_at s 3 + 16 * bit_at s 4 + 32 * bit_at s 5 ≡ s
sum_of_bits s h = omega arith

-- behind any list they lead to it
pub leads_by_six : (k s : ℕ) (u : List ℕ) → length u ≡ k → AreBits u → s < 64 → LeadsTo (k + 6) s (u ++ six_inputs s)
unfolding state_before six_inputs
leads_by_six k s u long bits h =
    let w = u ++ six_inputs s in
    let at : (j steps : ℕ) → steps + j ≡ 6 → earlier w (k + 6) steps ≡ get_or (six_inputs s) j 0 =
    λ j steps e. let place : k + 6 - steps ≡ length u + j = omega arith in earlier_inside w (k + 6) steps (omega arith) ∙ rw place (get_or-append-add u (six_inputs s) j 0) in
    record {
      long = omega (arith, length-append u (six_inputs s));
      bits = All-append IsBit u (six_inputs s) bits (are_bits s);
      ends = rw (at 5 1 refl, at 4 2 refl, at 3 3 refl, at 2 4 refl, at 1 5 refl, at 0 6 refl) (sum_of_bits s h);
    }

-- a list with its last six inputs changed to lead to a state
pub redirected : ℕ → ℕ → List ℕ → List ℕ
redirected n s u = take (n - 6) u ++ six_inputs s

pub leads_redirected : (n s : ℕ) (u : List ℕ) → 6 ≤ n → length u ≡ n → AreBits u → s < 64 → LeadsTo n s (redirected n s u)
unfolding redirected
leads_redirected n s u some long bits h =
    let whole : n - 6 + 6 ≡ n = omega arith in
    rw whole at (leads_by_six (n - 6) s (take (n - 6) u) (length-take-le (n - 6) u (omega arith)) (All-take IsBit (n - 6) u bits) h)

same_below_redirected : (n s : ℕ) (u : List ℕ) → 6 ≤ n → length u ≡ n → SameBelow (n - 6) (redirected n s u) u
unfolding redirected
same_below_redirected n s u some long k h =
    let front = take (n - 6) u in
    let front_long : length front ≡ n - 6 = length-take-le (n - 6) u (omega arith) in
    sym (SameBelow-append front (six_inputs s) k (omega arith)) ∙ SameBelow-take (n - 6) u k h

-- it costs at most six pairs more
pub cost_redirected : (most n s : ℕ) (pairs : List PairCosts) (u : List ℕ) → All (λ pair. most_cost pair ≤ most) pairs → length pairs ≡ n → 6 ≤ n → length u ≡ n → cost pairs (redirected n s u) ≤ cost pairs u + 6 * most
cost_redirected most n s pairs u all count some long =
    let w = redirected n s u in
    let front = take (n - 6) pairs in
    let last = drop (n - 6) pairs in
    let front_count : length front ≡ n - 6 = length-take-le (n - 6) pairs (omega arith) in
    let last_count : length last ≡ 6 = length-drop (n - 6) pairs ∙ omega arith in
    let split : (v : List ℕ) → cost pairs v ≡ cost_from 0 front v + cost_from (length front) last v =
    λ v. cost_is pairs v ∙ rw (take-append-drop (n - 6) pairs, zero-add) at (cost_from-append 0 front last v) in
    let same : cost_from 0 front w ≡ cost_from 0 front u = cost_from_same (n - 6) w u (same_below_redirected n s u some long) 0 front (omega arith) in
    let few : cost_from (length front) last w ≤ length last * most = cost_from_le most w (length front) last (All-drop (λ pair. most_cost pair ≤ most) (n - 6) pairs all) in
    let few_more : cost_from (length front) last w ≤ 6 * most = rw last_count at few in
    omega (arith, split w, split u)
