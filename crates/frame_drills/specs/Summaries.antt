-- What a drill comes to, and its text (own).
use Rattle.std.specs.Prelude.{◌≡◌, ◌↔◌, ℕ, ◌<◌, Bool, IsTrue, List, [], ◌∷◌, ◌++◌, length, map, filter, count_by, sum_by, codes, decimal}
use Rattle.std.specs.List.{range_with_len}
use Rattle.fixed_complex.specs.declared.Sample.{Sample}
use Rattle.frame_drills.specs.Captures.{ComesBack, first_capture, second_capture}
use Rattle.frame_drills.specs.Draws.{drawn}
use Rattle.frame_drills.specs.declared.summaries.Summary.{Summary}

-- the numbers of so many frames, from 0 on
abbrev pub numbers : ℕ → List ℕ
numbers count = range_with_len 0 count

-- a test tells which of so many frames come back of their captures
abbrev pub TellsBack : (ℕ → List Sample) → ℕ → (ℕ → Bool) → Type 0
TellsBack capture_of count is_back =
    (number : ℕ) → number < count
    → IsTrue (is_back number) ↔ ComesBack (capture_of number) (drawn number)

-- what a drill of so many frames comes to: how many come back of their first captures, the sum of the LENGTHs of those
-- that come back of their second ones, and the sum of the numbers of samples of the first captures
pub record IsSummary (count : ℕ) (summary : Summary) : Type 0 where
  pub is_first : ℕ → Bool
  pub is_second : ℕ → Bool
  pub first : TellsBack first_capture count is_first
  pub second : TellsBack second_capture count is_second
  pub count_is : summary.count ≡ count
  pub heard : summary.heard ≡ count_by is_first (numbers count)
  pub octets : summary.octets
      ≡ sum_by (λ number. length (drawn number).psdu) (filter is_second (numbers count))
  pub samples : summary.samples ≡ sum_by length (map first_capture (numbers count))

-- `drill COUNT heard H octets O samples S` and a newline, all numbers in decimal
abbrev pub text_of_summary : Summary → List ℕ
text_of_summary summary =
    codes "drill " ++ decimal summary.count ++ codes " heard " ++ decimal summary.heard
    ++ codes " octets " ++ decimal summary.octets ++ codes " samples " ++ decimal summary.samples
    ++ 10 ∷ []
