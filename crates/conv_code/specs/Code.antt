-- The convolutional code of rate 1/2 (IEEE Std 802.11-2012, 18.3.5.6): generators 133 and 171,
-- octal.
use Rattle.std.specs.Prelude.{ℕ, ◌+◌, ◌-◌, ◌*◌, ◌%◌, ◌<◌, ◌≡◌, List, [], ◌∷◌, length, slice_index, nat_lt, if◌then◌else◌}
use Rattle.std.specs.List.{flat_map, range_with_len}

-- the input so many steps before place i, read as 0 before the first place
unfoldable pub earlier : List ℕ → ℕ → ℕ → ℕ
earlier u i steps = if nat_lt i steps then 0 else slice_index u (i - steps)

-- A: the exclusive or of u[i], u[i-2], u[i-3], u[i-5] and u[i-6]
unfoldable pub parity_a : List ℕ → ℕ → ℕ
parity_a u i = (earlier u i 0 + earlier u i 2 + earlier u i 3 + earlier u i 5 + earlier u i 6) % 2

-- B: the exclusive or of u[i], u[i-1], u[i-2], u[i-3] and u[i-6]
unfoldable pub parity_b : List ℕ → ℕ → ℕ
parity_b u i = (earlier u i 0 + earlier u i 1 + earlier u i 2 + earlier u i 3 + earlier u i 6) % 2

-- a list codes the list u: it is twice as long, and has the two parities of each place in turn
pub record Codes (code u : List ℕ) : Type 0 where
  pub twice : length code ≡ 2 * length u
  pub a : (i : ℕ) → i < length u → slice_index code (2 * i) ≡ parity_a u i
  pub b : (i : ℕ) → i < length u → slice_index code (2 * i + 1) ≡ parity_b u i

-- the two parities of place i, A before B
abbrev pub parities : List ℕ → ℕ → List ℕ
parities u i = parity_a u i ∷ parity_b u i ∷ []

-- the one list that codes u
abbrev pub code_of : List ℕ → List ℕ
code_of u = flat_map (parities u) (range_with_len 0 (length u))
