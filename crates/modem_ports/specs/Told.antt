-- What a port tells of its bytes (own): the bytes that a source has left, and those that a sink has
-- taken. A port that tells nothing has `None`, and goes on telling nothing.
use Rattle.std.specs.Prelude.{ℕ, ◌≤◌, ◌≡◌, List, [], ◌++◌, length, take, Option, Some, None, IfSome}

-- a source gave a piece: it was the front of what was left, and the rest is left
abbrev pub Gives : Option (List ℕ) → List ℕ → Option (List ℕ) → Type 0
Gives (Some before) piece (Some after) = before ≡ piece ++ after
Gives (Some before) piece None = ⊥
Gives None piece (Some after) = ⊥
Gives None piece None = Unit {0}

-- a source gave some bytes, and no more than this many
abbrev pub GivesAtMost : ℕ → Option (List ℕ) → Option (List ℕ) → Type 0
GivesAtMost most before after = (piece : List ℕ) × (length piece ≤ most) × Gives before piece after

-- a source gave just this many bytes
abbrev pub GivesExactly : ℕ → Option (List ℕ) → Option (List ℕ) → Type 0
GivesExactly count before after =
    (piece : List ℕ) × (length piece ≡ count) × Gives before piece after

-- a source gave a piece, which now stands behind the bytes that were there
abbrev pub GivesBehind : Option (List ℕ) → List ℕ → Option (List ℕ) → List ℕ → Type 0
GivesBehind left bytes left' bytes' =
    (piece : List ℕ) × (bytes' ≡ bytes ++ piece) × Gives left piece left'

-- nothing is left of what a source tells
abbrev pub IsAtEnd : Option (List ℕ) → Type 0
IsAtEnd left = IfSome left (λ bytes. bytes ≡ [])

-- a sink took a piece, behind what it had
abbrev pub Takes : Option (List ℕ) → List ℕ → Option (List ℕ) → Type 0
Takes (Some before) piece (Some after) = after ≡ before ++ piece
Takes (Some before) piece None = ⊥
Takes None piece (Some after) = ⊥
Takes None piece None = Unit {0}

-- a sink took a prefix of the bytes, which may be all or none of them
abbrev pub TakesPrefix : Option (List ℕ) → List ℕ → Option (List ℕ) → Type 0
TakesPrefix before bytes after = (count : ℕ) × Takes before (take count bytes) after
