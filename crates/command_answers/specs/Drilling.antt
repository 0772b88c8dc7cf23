-- What a drill writes (own).
use Rattle.std.specs.Prelude.{ℕ, ◌≡◌, List}
use Rattle.frame_drills.specs.Summaries.{IsSummary, text_of_summary}
use Rattle.frame_drills.specs.declared.summaries.Summary.{Summary}

-- the text of what a drill of so many frames comes to
abbrev pub HasDrilled : ℕ → List ℕ → Type 0
HasDrilled count text =
    (summary : Summary) × IsSummary count summary × (text ≡ text_of_summary summary)
