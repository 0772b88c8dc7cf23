-- The text of values (own): hexadecimal digits, `0` to `9` and then `a` to `f`.
use Rattle.std.specs.Prelude.{ℕ, ◌+◌, List, nat_lt, if◌then◌else◌}
use Rattle.character_texts.specs.Texts.{IsBadPlaceBy, IsTextBy}
use Rattle.hex_digits.specs.Digits.{IsDigit}

-- the digit of a value
abbrev pub digit_of : ℕ → ℕ
digit_of value = if nat_lt value 10 then 48 + value else 87 + value

-- a text has these values: it is their digits, with or without a newline behind
abbrev pub IsTextOf : List ℕ → List ℕ → Type 0
IsTextOf text values = IsTextBy digit_of text values

-- the least place of a text that holds no digit, a newline at the very end excepted
abbrev pub IsBadPlace : List ℕ → ℕ → Type 0
IsBadPlace text at = IsBadPlaceBy IsDigit text at
