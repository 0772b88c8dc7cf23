-- Texts that are refused at a place (own). A kind of text is what holds of its texts, and of no other.
use Rattle.std.specs.Prelude.{ℕ, ◌≡◌, ◌⊎◌, List, [], ◌∷◌, ◌++◌, length}

-- a text begins one of the kind: some rest completes it
abbrev pub Begins : (List ℕ → Type 0) → List ℕ → Type 0
Begins Kind text = (rest : List ℕ) × Kind (text ++ rest)

-- bytes that stand behind others lead to no text of the kind: the first of them does not, and where
-- there is none, the bytes before are no text of the kind themselves
abbrev pub Stops : (List ℕ → Type 0) → List ℕ → List ℕ → Type 0
Stops Kind before [] = ¬ Kind before
Stops Kind before (byte ∷ behind) = ¬ Begins Kind (before ++ byte ∷ [])

-- a text is bad at a place: the bytes before the place begin a text of the kind, and with the byte at
-- the place they begin none. The place is the text's length where the whole text begins one and is none
pub record IsBadAt (Kind : List ℕ → Type 0) (text : List ℕ) (at : ℕ) : Type 0 where
  pub before : List ℕ
  pub behind : List ℕ
  pub whole : text ≡ before ++ behind
  pub place : at ≡ length before
  pub begins : Begins Kind before
  pub stops : Stops Kind before behind

-- laws of a kind: each text has one bad place at most
abbrev pub HasOnePlace : (List ℕ → Type 0) → Type 0
HasOnePlace Kind = (text : List ℕ) (a b : ℕ) → IsBadAt Kind text a → IsBadAt Kind text b → a ≡ b

-- no text of the kind has a bad place
abbrev pub HasNoPlace : (List ℕ → Type 0) → Type 0
HasNoPlace Kind = (text : List ℕ) (at : ℕ) → Kind text → ¬ IsBadAt Kind text at

-- each text is of the kind, or has a bad place
abbrev pub IsDecided : (List ℕ → Type 0) → Type 0
IsDecided Kind = (text : List ℕ) → Kind text ⊎ ((at : ℕ) × IsBadAt Kind text at)
