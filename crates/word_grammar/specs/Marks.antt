-- Marks between words (own).
use Rattle.std.specs.Prelude.{ℕ, ◌+◌, ◌≤◌, ◌≡◌, ◌≢◌, ◌⊎◌, List, [], ◌∷◌, length, take, drop, ⊤}

-- a word holds no mark
abbrev pub HasNo : ℕ → List ℕ → Type 0
HasNo mark [] = ⊤
HasNo mark (byte ∷ word) = (byte ≢ mark) × HasNo mark word

-- a text's first word is as long as this: the mark stands behind it, or nothing
pub record IsWordEnd (mark : ℕ) (text : List ℕ) (end : ℕ) : Type 0 where
  pub within : end ≤ length text
  pub bare : HasNo mark (take end text)
  pub behind : (drop end text ≡ []) ⊎ (drop end text ≡ mark ∷ drop (end + 1) text)
