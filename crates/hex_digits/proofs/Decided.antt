-- A byte is a digit or not.
use Rattle.std.proofs.Common.{ℕ, ◌≤◌, ◌⊎◌, inl, inr, arith}
use Rattle.std.proofs.lemmas.Bool.{cases_lt}
use Rattle.hex_digits.specs.Digits.{IsDigit}

pub digit_or_not : (byte : ℕ) → IsDigit byte ⊎ ¬ IsDigit byte
digit_or_not byte =
    elim (cases_lt byte 48) [
      | inl low ↦ inr (λ d. elim d [ inl h ↦ omega (arith, h.0) | inr h ↦ omega (arith, h.0) ])
      | inr from ↦ elim (cases_lt byte 58) [
        | inl few ↦ inl (inl (from, omega arith))
        | inr past ↦ elim (cases_lt byte 97) [
          | inl between ↦ inr (λ d. elim d [ inl h ↦ omega (arith, h.1) | inr h ↦ omega (arith, h.0) ])
          | inr letter ↦ elim (cases_lt 102 byte) [
            | inl high ↦ inr (λ d. elim d [ inl h ↦ omega (arith, h.1) | inr h ↦ omega (arith, h.1) ])
            | inr within ↦ inl (inr (letter, within))
          ]
        ]
      ]
    ]
