-- What the inputs before a place have to do with its parities and with the state before it.
use Rattle.std.proofs.Common.{◌≡◌, ℕ, ◌+◌, ◌-◌, ◌*◌, ◌%◌, ◌<◌, ◌≤◌, List, length, slice_index, refl, ◌∙◌, inl, inr, arith, ltb}
use Rattle.std.proofs.lemmas.Bool.{cases_lt, cond-true, cond-false, lt-ltb, le-ltb}
use Rattle.bit_lists.specs.Bits.{IsBit, AreBits}
use Rattle.bit_lists.proofs.BitFacts.{IsBit-slice_index}
use Rattle.std.specs.Int.{bit_at}
use Rattle.conv_code.specs.Code.{earlier, parity_a, parity_b}
use Rattle.conv_code.specs.States.{branch_a, branch_b, state_after, state_before}

-- an input before the first place is 0
pub earlier_before : (u : List ℕ) (i steps : ℕ) → i < steps → earlier u i steps ≡ 0
unfolding earlier
earlier_before u i steps h = cond-true (ltb i steps) 0 (slice_index u (i - steps)) (lt-ltb i steps h)

-- from there on it is an entry
pub earlier_inside : (u : List ℕ) (i steps : ℕ) → steps ≤ i → earlier u i steps ≡ slice_index u (i - steps)
unfolding earlier
earlier_inside u i steps h = cond-false (ltb i steps) 0 (slice_index u (i - steps)) (le-ltb i steps h)

-- an input before a place is a bit
pub IsBit-earlier : (u : List ℕ) (i steps : ℕ) → AreBits u → IsBit (earlier u i steps)
IsBit-earlier u i steps bits =
    elim (cases_lt i steps) [
      | inl before ↦ rw (earlier_before u i steps before) (omega arith)
      | inr inside ↦ rw (earlier_inside u i steps inside) (IsBit-slice_index u (i - steps) bits)
    ]

-- no step before a place is the place
pub earlier-zero : (u : List ℕ) (i : ℕ) → earlier u i 0 ≡ slice_index u i
earlier-zero u i = let same : i - 0 ≡ i = omega arith in rw (earlier_inside u i 0 (omega arith), same)

-- one place on, each input is one step further back
pub earlier-more : (u : List ℕ) (i steps further : ℕ) → further ≡ steps + 1 → earlier u (i + 1) further ≡ earlier u i steps
earlier-more u i steps further e =
    elim (cases_lt i steps) [
      | inl before ↦ rw (earlier_before u (i + 1) further (omega arith), earlier_before u i steps before)
      | inr inside ↦ let same : i + 1 - further ≡ i - steps = omega arith in rw (earlier_inside u (i + 1) further (omega arith), earlier_inside u i steps inside, same)
    ]

-- six bits that are shifted by one place, where the highest falls away
shifted : (input one two three four five six : ℕ) → input < 2 → one < 2 → two < 2 → three < 2 → four < 2 → five < 2 → (2 * (one + 2 * two + 4 * three + 8 * four + 16 * five + 32 * six) + input) % 64 ≡ input + 2 * one + 4 * two + 8 * three + 16 * four + 32 * five
shifted input one two three four five six p q r s t v = omega arith

-- a state is below 64
pub state_before-lt : (u : List ℕ) (i : ℕ) → AreBits u → state_before u i < 64
unfolding state_before
state_before-lt u i bits =
    omega (arith, IsBit-earlier u i 1 bits, IsBit-earlier u i 2 bits, IsBit-earlier u i 3 bits, IsBit-earlier u i 4 bits, IsBit-earlier u i 5 bits, IsBit-earlier u i 6 bits)

-- the state before the next place is the state after the step at this one
pub state_before-more : (u : List ℕ) (i : ℕ) → AreBits u → state_after (state_before u i) (slice_index u i) ≡ state_before u (i + 1)
unfolding state_before
state_before-more u i bits =
    rw (earlier-more u i 0 1 refl, earlier-more u i 1 2 refl, earlier-more u i 2 3 refl, earlier-more u i 3 4 refl, earlier-more u i 4 5 refl, earlier-more u i 5 6 refl, earlier-zero)
    (shifted _ _ _ _ _ _ _ (IsBit-slice_index u i bits) (IsBit-earlier u i 1 bits) (IsBit-earlier u i 2 bits) (IsBit-earlier u i 3 bits) (IsBit-earlier u i 4 bits) (IsBit-earlier u i 5 bits))

-- so what a step gives there is the state before the next place
pub next_state_along : (state bit next : ℕ) → next ≡ state_after state bit → (u : List ℕ) (i : ℕ) → AreBits u → i < length u → state ≡ state_before u i → bit ≡ slice_index u i → next ≡ state_before u (i + 1)
next_state_along state bit next after u i bits within same_state same_bit = after ∙ rw (same_state, same_bit) (state_before-more u i bits)

-- a state's bits, from six bits
pub record BitsOfState (state one two three four five six : ℕ) : Type 0 where
  pub one_ago : bit_at state 0 ≡ one
  pub two_ago : bit_at state 1 ≡ two
  pub three_ago : bit_at state 2 ≡ three
  pub four_ago : bit_at state 3 ≡ four
  pub five_ago : bit_at state 4 ≡ five
  pub six_ago : bit_at state 5 ≡ six

-- six bits, each at its weight
bits_of_sum : (one two three four five six : ℕ) → one < 2 → two < 2 → three < 2 → four < 2 → five < 2 → six < 2 → BitsOfState (one + 2 * two + 4 * three + 8 * four + 16 * five + 32 * six) one two three four five six
bits_of_sum one two three four five six p q r s t v = record {
  one_ago = omega arith;
  two_ago = omega arith;
  three_ago = omega arith;
  four_ago = omega arith;
  five_ago = omega arith;
  six_ago = omega arith;
}

-- bit j of the state before a place is the input j + 1 steps before it
pub bits_of_state_before : (u : List ℕ) (i : ℕ) → AreBits u → BitsOfState (state_before u i) (earlier u i 1) (earlier u i 2) (earlier u i 3) (earlier u i 4) (earlier u i 5) (earlier u i 6)
unfolding state_before
bits_of_state_before u i bits =
    bits_of_sum _ _ _ _ _ _ (IsBit-earlier u i 1 bits) (IsBit-earlier u i 2 bits) (IsBit-earlier u i 3 bits) (IsBit-earlier u i 4 bits) (IsBit-earlier u i 5 bits) (IsBit-earlier u i 6 bits)

-- A of a step is the exclusive or of its input and of the inputs 2, 3, 5 and 6 steps ago
pub branch_a_is : (state bit : ℕ) → branch_a state bit ≡ (bit + bit_at state 1 + bit_at state 2 + bit_at state 4 + bit_at state 5) % 2
unfolding parity_a earlier
branch_a_is state bit = refl

-- B is the exclusive or of its input and of the inputs 1, 2, 3 and 6 steps ago
pub branch_b_is : (state bit : ℕ) → branch_b state bit ≡ (bit + bit_at state 0 + bit_at state 1 + bit_at state 2 + bit_at state 5) % 2
unfolding parity_b earlier
branch_b_is state bit = refl

-- at the state before a place and its bit, a step gives the parities of the place
pub branch_a_along : (u : List ℕ) (i : ℕ) → AreBits u → branch_a (state_before u i) (slice_index u i) ≡ parity_a u i
unfolding parity_a
branch_a_along u i bits =
    let held = bits_of_state_before u i bits in
    rw (branch_a_is, held.two_ago, held.three_ago, held.five_ago, held.six_ago, earlier-zero)

-- and so with B
pub branch_b_along : (u : List ℕ) (i : ℕ) → AreBits u → branch_b (state_before u i) (slice_index u i) ≡ parity_b u i
unfolding parity_b
branch_b_along u i bits =
    let held = bits_of_state_before u i bits in
    rw (branch_b_is, held.one_ago, held.two_ago, held.three_ago, held.six_ago, earlier-zero)
