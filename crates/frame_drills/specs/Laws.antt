-- What the laws of drills state (own).
use Rattle.std.specs.Prelude.{◌≡◌, ℕ, [], ◌∷◌}
use Rattle.frame_receiver.specs.Noise.{HasInNoise}
use Rattle.frame_drills.specs.Captures.{ComesBack, first_capture}
use Rattle.frame_drills.specs.Draws.{drawn}
use Rattle.frame_drills.specs.Summaries.{IsSummary}
use Rattle.frame_drills.specs.declared.summaries.Summary.{Summary}

-- the first capture of every number is its frame in noise within its bound
abbrev pub FirstIsInNoise : Type 0
FirstIsInNoise = (number : ℕ) → HasInNoise (first_capture number) (drawn number ∷ [])

-- and the frame comes back of it
abbrev pub FirstComesBack : Type 0
FirstComesBack = (number : ℕ) → ComesBack (first_capture number) (drawn number)

-- a drill of so many frames comes to something
abbrev pub SomeSummary : Type 0
SomeSummary = (count : ℕ) → (summary : Summary) × IsSummary count summary

-- and to nothing else
abbrev pub OneSummary : Type 0
OneSummary =
    (count : ℕ) (summary other : Summary) → IsSummary count summary → IsSummary count other
    → summary ≡ other
