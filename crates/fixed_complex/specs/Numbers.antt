-- Lists of whole numbers place by place, as lanes hold them, and bounds on every number of one (own).
use Rattle.std.specs.Prelude.{ℕ, ◌≤◌, List, slice_index_or, ℤ, pos, unsigned_abs}

-- the number at a place of a list, and 0 past its end
abbrev pub number_at : List ℤ → ℕ → ℤ
number_at numbers n = slice_index_or numbers n (pos 0)

-- each number is at most so large in size
abbrev pub NumbersWithin : ℕ → List ℤ → Type 0
NumbersWithin bound numbers = (n : ℕ) → unsigned_abs (number_at numbers n) ≤ bound
