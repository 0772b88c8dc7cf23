-- The code of 18.3.5.6 by its states, whose numbers are own. Bit j of a state, 0 to 63, is the
-- input j + 1 steps ago.
use Rattle.std.specs.Prelude.{ℕ, ◌+◌, ◌*◌, ◌%◌, List, [], ◌∷◌}
use Rattle.std.specs.Int.{bit_at}
use Rattle.conv_code.specs.Code.{earlier, parity_a, parity_b}

-- the six inputs that a state holds, the oldest first, and then the input of the step
abbrev pub recent_inputs : ℕ → ℕ → List ℕ
recent_inputs state bit =
    bit_at state 5 ∷ bit_at state 4 ∷ bit_at state 3 ∷ bit_at state 2 ∷ bit_at state 1
    ∷ bit_at state 0 ∷ bit ∷ []

-- A and B of a step: the parities at the last of those inputs
abbrev pub branch_a : ℕ → ℕ → ℕ
branch_a state bit = parity_a (recent_inputs state bit) 6

abbrev pub branch_b : ℕ → ℕ → ℕ
branch_b state bit = parity_b (recent_inputs state bit) 6

-- the state after a step
abbrev pub state_after : ℕ → ℕ → ℕ
state_after state bit = (2 * state + bit) % 64

-- the state before place i of the list u, whose inputs before the first are 0
unfoldable pub state_before : List ℕ → ℕ → ℕ
state_before u i =
    earlier u i 1 + 2 * earlier u i 2 + 4 * earlier u i 3
    + 8 * earlier u i 4 + 16 * earlier u i 5 + 32 * earlier u i 6
