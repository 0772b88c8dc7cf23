-- Each text has bits or a bad place, and one of either.
use Rattle.std.proofs.Common.{◌≡◌, ℕ, zero, suc, ◌<◌, ◌+◌, ◌⊎◌, inl, inr, List, refl, arith}
use Rattle.std.proofs.lemmas.Bool.{cases_eq}
use Rattle.character_texts.specs.Texts.{IsAlphabet}
use Rattle.character_texts.proofs.Values as texts
use Rattle.bit_lists.specs.Bits.{AreBits, IsBit}
use Rattle.bit_lists.specs.Text.{IsBadPlace, IsCharacter, IsTextOf, character_of}

-- the character of a bit
character_is : (bit : ℕ) → bit < 2 → IsCharacter (48 + bit)
character_is zero lt = inl refl
character_is (suc zero) lt = inr refl
character_is (suc (suc n)) lt = absurd (omega arith)

-- a character or none
character_decided : (c : ℕ) → IsCharacter c ⊎ (IsCharacter c → ⊥)
character_decided c =
    elim (cases_eq c 48) [
      | inl is_zero ↦ inl (inl is_zero)
      | inr no_zero ↦ elim (cases_eq c 49) [
        | inl is_one ↦ inl (inr is_one)
        | inr no_one ↦ inr (λ is. elim is [ inl same ↦ no_zero same | inr same ↦ no_one same ])
      ]
    ]

-- the bit of a character
bit_for : (c : ℕ) → IsCharacter c → (bit : ℕ) × (IsBit bit × (character_of bit ≡ c))
bit_for c (inl is) = (0, (omega arith, omega arith))
bit_for c (inr is) = (1, (omega arith, omega arith))

pub bits_alphabet : IsAlphabet IsBit IsCharacter character_of
bits_alphabet = record {
  written = character_is;
  read = bit_for;
  decided = character_decided;
  alike = λ v w same. omega arith;
  no_newline = λ value same. omega arith;
}

pub one_text : (text a b : List ℕ) → IsTextOf text a → IsTextOf text b → a ≡ b
one_text = texts.one_text bits_alphabet

pub apart : (text bits : List ℕ) (at : ℕ) → AreBits bits → IsTextOf text bits → IsBadPlace text at → ⊥
apart = texts.apart bits_alphabet

pub one_place : (text : List ℕ) (a b : ℕ) → IsBadPlace text a → IsBadPlace text b → a ≡ b
one_place = texts.one_place

pub some_text : (text : List ℕ) → ((bits : List ℕ) × (AreBits bits × IsTextOf text bits)) ⊎ ((at : ℕ) × IsBadPlace text at)
some_text = texts.some_text bits_alphabet
