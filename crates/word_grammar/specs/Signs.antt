-- Decimal numbers with a minus sign before a negative one, with no leading zero (own).
use Rattle.std.specs.Prelude.{ℕ, ◌≡◌, List, ℤ, pos, neg_ℤ, ◌≤ℤ◌}
use Rattle.std.specs.Fmt.{signed_decimal}

-- the word is the number, which is from -below to above
pub record SaysSigned (below above : ℕ) (number : ℤ) (word : List ℕ) : Type 0 where
  pub from : neg_ℤ (pos below) ≤ℤ number
  pub up_to : number ≤ℤ pos above
  pub is : word ≡ signed_decimal number

-- the word is a number from -below to above
abbrev pub IsSigned : ℕ → ℕ → List ℕ → Type 0
IsSigned below above word = (number : ℤ) × SaysSigned below above number word
