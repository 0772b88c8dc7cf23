-- Words that are one of some names (own).
use Rattle.std.specs.Prelude.{ℕ, ◌≡◌, ◌⊎◌, List, [], ◌∷◌, max, nat_eq}
use Rattle.std.specs.List.{common_prefix_len}

-- the word is one of the names
abbrev pub IsOneOf : List (List ℕ) → List ℕ → Type 0
IsOneOf [] word = ⊥
IsOneOf (name ∷ names) word = (word ≡ name) ⊎ IsOneOf names word

-- the most bytes that a word shares at its front with one of the names
abbrev pub most_shared : List (List ℕ) → List ℕ → ℕ
most_shared [] word = 0
most_shared (name ∷ names) word = max (common_prefix_len nat_eq word name) (most_shared names word)
