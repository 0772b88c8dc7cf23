-- Texts of lines (own).
use Rattle.std.specs.Prelude.{ℕ, ◌≡◌, ◌⊎◌, List, []}

-- a text of the kind, or none
abbrev pub OrNothing : (List ℕ → Type 0) → List ℕ → Type 0
OrNothing Kind text = (text ≡ []) ⊎ Kind text
