-- Texts of characters (own): one for each value, and at most one newline, which is the last byte. What
-- writes a value is a function.
use Rattle.std.specs.Prelude.{ℕ, ◌+◌, ◌<◌, ◌≡◌, ◌≢◌, ◌⊎◌, List, [], ◌∷◌, ◌++◌, length, map, slice_index}

-- a text has these values: it is their characters, with or without a newline behind
abbrev pub IsTextBy : (ℕ → ℕ) → List ℕ → List ℕ → Type 0
IsTextBy character text values =
    (text ≡ map character values) ⊎ (text ≡ map character values ++ 10 ∷ [])

-- the least place of a text that holds none of the characters, a newline at the very end excepted
pub record IsBadPlaceBy (IsCharacter : ℕ → Type 0) (text : List ℕ) (at : ℕ) : Type 0 where
  pub within : at < length text
  pub no_character : ¬ IsCharacter (slice_index text at)
  pub no_final_newline : ¬ ((slice_index text at ≡ 10) × (at + 1 ≡ length text))
  pub least : (place : ℕ) → place < at → IsCharacter (slice_index text place)

-- a function writes each value as one of the characters, each character writes a value, values that
-- are written alike are one, and a newline writes none
pub record IsAlphabet (IsValue : ℕ → Type 0) (IsCharacter : ℕ → Type 0) (character : ℕ → ℕ) : Type 0 where
  pub written : (value : ℕ) → IsValue value → IsCharacter (character value)
  pub read : (byte : ℕ) → IsCharacter byte → (value : ℕ) × (IsValue value × (character value ≡ byte))
  pub decided : (byte : ℕ) → IsCharacter byte ⊎ ¬ IsCharacter byte
  pub alike : (v w : ℕ) → character v ≡ character w → v ≡ w
  pub no_newline : (value : ℕ) → character value ≢ 10
