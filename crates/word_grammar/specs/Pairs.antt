-- A word and what stands behind it, told apart by a mark (own).
use Rattle.std.specs.Prelude.{ℕ, ◌≡◌, List, ◌∷◌, ◌++◌}

-- the word is some value's
abbrev pub SaysSome : {V : Type 0} → (V → List ℕ → Type 0) → List ℕ → Type 0
SaysSome {V} Word word = (value : V) × Word value word

-- a text is a word, the mark, and a rest that may stand behind the word's value
pub record SaysPair {V : Type 0} (mark : ℕ) (Word Rest : V → List ℕ → Type 0) (text : List ℕ)
    : Type 0 where
  pub value : V
  pub word : List ℕ
  pub rest : List ℕ
  pub whole : text ≡ word ++ mark ∷ rest
  pub says : Word value word
  pub behind : Rest value rest
