-- Each text has values or a bad place, and one of either.
use Rattle.std.proofs.Common.{◌≡◌, ◌≢◌, ℕ, ◌+◌, ◌-◌, ◌<◌, ◌≤◌, ◌⊎◌, inl, inr, List, ltb, arith}
use Rattle.std.proofs.lemmas.Bool.{cases_lt, cond-true, cond-false, lt-ltb, le-ltb}
use Rattle.character_texts.specs.Texts.{IsAlphabet}
use Rattle.character_texts.proofs.Values as texts
use Rattle.hex_digits.proofs.Decided.{digit_or_not}
use Rattle.hex_digits.specs.Digits.{IsDigit}
use Rattle.soft_trellis.specs.Text.{IsBadPlace, IsTextOf, digit_of}
use Rattle.soft_trellis.specs.Values.{AreValues, IsValue}

-- the digit of a value, below 10 and from 10 on
pub low_digit : (value : ℕ) → value < 10 → digit_of value ≡ 48 + value
low_digit value low = cond-true (ltb value 10) (48 + value) (87 + value) (lt-ltb value 10 low)

pub high_digit : (value : ℕ) → 10 ≤ value → digit_of value ≡ 87 + value
high_digit value high = cond-false (ltb value 10) (48 + value) (87 + value) (le-ltb value 10 high)

digit_is : (value : ℕ) → IsValue value → IsDigit (digit_of value)
digit_is value is =
    elim (cases_lt value 10) [
      | inl low ↦ inl (omega (arith, low_digit value low), omega (arith, low_digit value low))
      | inr high ↦ let written = high_digit value (omega arith) in inr (omega arith, omega arith)
    ]

-- the value of a digit
value_for : (byte : ℕ) → IsDigit byte → (value : ℕ) × (IsValue value × (digit_of value ≡ byte))
value_for byte (inl low) = (byte - 48, (omega arith, omega (arith, low_digit (byte - 48) (omega arith))))
value_for byte (inr high) = (byte - 87, (omega arith, omega (arith, high_digit (byte - 87) (omega arith))))

-- a digit is its value and 48, or its value and 87
abbrev ByDigit : ℕ → Type 0
ByDigit value = ((value < 10) × (digit_of value ≡ 48 + value)) ⊎ ((10 ≤ value) × (digit_of value ≡ 87 + value))

by_digit : (value : ℕ) → ByDigit value
by_digit value =
    elim (cases_lt value 10) [
      | inl low ↦ inl (low, low_digit value low)
      | inr high ↦ inr (omega arith, high_digit value (omega arith))
    ]

alike : (v w : ℕ) → digit_of v ≡ digit_of w → v ≡ w
alike v w same =
    elim (by_digit v) [
      | inl low ↦ elim (by_digit w) [ inl low' ↦ omega (arith, low, low', same) | inr high' ↦ omega (arith, low, high', same) ]
      | inr high ↦ elim (by_digit w) [ inl low' ↦ omega (arith, high, low', same) | inr high' ↦ omega (arith, high, high', same) ]
    ]

no_newline : (value : ℕ) → digit_of value ≢ 10
no_newline value same =
    elim (by_digit value) [ inl low ↦ omega (arith, low, same) | inr high ↦ omega (arith, high, same) ]

pub digits_alphabet : IsAlphabet IsValue IsDigit digit_of
digits_alphabet = record {
  written = digit_is;
  read = value_for;
  decided = digit_or_not;
  alike = alike;
  no_newline = no_newline;
}

pub one_text : (text a b : List ℕ) → IsTextOf text a → IsTextOf text b → a ≡ b
one_text = texts.one_text digits_alphabet

pub apart : (text values : List ℕ) (at : ℕ) → AreValues values → IsTextOf text values → IsBadPlace text at → ⊥
apart = texts.apart digits_alphabet

pub one_place : (text : List ℕ) (a b : ℕ) → IsBadPlace text a → IsBadPlace text b → a ≡ b
one_place = texts.one_place

pub some_text : (text : List ℕ) → ((values : List ℕ) × (AreValues values × IsTextOf text values)) ⊎ ((at : ℕ) × IsBadPlace text at)
some_text = texts.some_text digits_alphabet
