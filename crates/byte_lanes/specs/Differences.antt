-- The places at which two lists of bytes differ (own).
use Rattle.std.specs.Prelude.{ℕ, ◌+◌, ◌==◌, List, [], ◌∷◌, if◌then◌else◌}

-- how many places of two lists differ
unfoldable pub differences_of : List ℕ → List ℕ → ℕ
differences_of [] ys = 0
differences_of (x ∷ xs) [] = 0
differences_of (x ∷ xs) (y ∷ ys) = (if x == y then 0 else 1) + differences_of xs ys
