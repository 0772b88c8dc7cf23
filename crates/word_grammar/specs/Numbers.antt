-- Decimal numbers in a range, with no leading zero (own).
use Rattle.std.specs.Prelude.{ℕ, ◌+◌, ◌-◌, ◌*◌, ◌<◌, ◌≤◌, ◌≡◌, ◌≢◌, ◌⊎◌, List, [], Option, Some, None, unwrap_or}
use Rattle.std.specs.Fmt.{decimal}

-- the word is the number, which is in the range
pub record SaysNumber (least most number : ℕ) (word : List ℕ) : Type 0 where
  pub from : least ≤ number
  pub up_to : number ≤ most
  pub is : word ≡ decimal number

-- the word is a number of the range
abbrev pub IsNumber : ℕ → ℕ → List ℕ → Type 0
IsNumber least most word = (number : ℕ) × SaysNumber least most number word

-- a range is wide: what begins a number of it can be completed by zeros alone
abbrev pub IsWide : ℕ → ℕ → Type 0
IsWide least most = (10 * least ≤ most) ⊎ (most < 10)

-- the digits of a number begin a number of a wide range: it is in the range, or a digit may follow
abbrev pub Grows : ℕ → ℕ → ℕ → Type 0
Grows least most number =
    (number ≤ most) × ((least ≤ number) ⊎ ((1 ≤ number) × (10 * number ≤ most)))

-- the digits that were read so far: none yet, or those of a number
abbrev pub digits_read : Option ℕ → List ℕ
digits_read None = []
digits_read (Some number) = decimal number

-- a byte is a digit behind those that were read, and they are then those of the number: behind a 0
-- there is none
pub record IsNext (read : Option ℕ) (byte number : ℕ) : Type 0 where
  pub low : 48 ≤ byte
  pub high : byte < 58
  pub no_zero : read ≢ Some 0
  pub value : number ≡ 10 * unwrap_or read 0 + (byte - 48)
