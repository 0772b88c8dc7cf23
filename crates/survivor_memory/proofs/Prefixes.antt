-- What a place of a list, and all before it, decide.
use Rattle.std.proofs.Common.{◌≡◌, ℕ, ◌+◌, ◌-◌, ◌<◌, ◌≤◌, List, ◌++◌, length, get_or, take, inl, inr, arith}
use Rattle.std.proofs.lemmas.Bool.{cases_lt}
use Rattle.std.proofs.lemmas.List.{get_or-take, get_or_append_left}
use Rattle.conv_code.specs.Code.{earlier, parity_a, parity_b}
use Rattle.conv_code.specs.States.{state_before}
use Rattle.conv_code.proofs.Inputs.{earlier_before, earlier_inside}

-- two lists agree at the places below a number
abbrev pub SameBelow : ℕ → List ℕ → List ℕ → Type 0
SameBelow n u w = (k : ℕ) → k < n → get_or u k 0 ≡ get_or w k 0

-- a list and its front
pub SameBelow-take : (n : ℕ) (w : List ℕ) → SameBelow n (take n w) w
SameBelow-take n w k h = get_or-take n w k 0 h

-- a list and one with more behind it
pub SameBelow-append : (u v : List ℕ) → SameBelow (length u) u (u ++ v)
SameBelow-append u v k h = let same : get_or (u ++ v) k 0 ≡ get_or u k 0 = get_or_append_left u v 0 k h in rw same

-- then the inputs before a place are the same
pub earlier_same : (n : ℕ) (u w : List ℕ) → SameBelow n u w → (i steps : ℕ) → i < n + steps → earlier u i steps ≡ earlier w i steps
earlier_same n u w same i steps h =
    elim (cases_lt i steps) [
      | inl before ↦ rw (earlier_before u i steps before, earlier_before w i steps before)
      | inr inside ↦ rw (earlier_inside u i steps inside, earlier_inside w i steps inside) (same (i - steps) (omega arith))
    ]

-- and so are the parities
pub parity_a_same : (n : ℕ) (u w : List ℕ) → SameBelow n u w → (i : ℕ) → i < n → parity_a u i ≡ parity_a w i
unfolding parity_a
parity_a_same n u w same i h =
    let at : (steps : ℕ) → earlier u i steps ≡ earlier w i steps = λ steps. earlier_same n u w same i steps (omega arith) in
    rw (at 0, at 2, at 3, at 5, at 6)

pub parity_b_same : (n : ℕ) (u w : List ℕ) → SameBelow n u w → (i : ℕ) → i < n → parity_b u i ≡ parity_b w i
unfolding parity_b
parity_b_same n u w same i h =
    let at : (steps : ℕ) → earlier u i steps ≡ earlier w i steps = λ steps. earlier_same n u w same i steps (omega arith) in
    rw (at 0, at 1, at 2, at 3, at 6)

-- and the states
pub state_before_same : (n : ℕ) (u w : List ℕ) → SameBelow n u w → (i : ℕ) → i ≤ n → state_before u i ≡ state_before w i
unfolding state_before
state_before_same n u w same i h =
    let at : (steps : ℕ) → 1 ≤ steps → earlier u i steps ≡ earlier w i steps = λ steps some. earlier_same n u w same i steps (omega arith) in
    rw (at 1 (omega arith), at 2 (omega arith), at 3 (omega arith), at 4 (omega arith), at 5 (omega arith), at 6 (omega arith))
