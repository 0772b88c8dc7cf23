-- The text of bits (own).
use Rattle.std.specs.Prelude.{ℕ, ◌+◌, ◌≡◌, ◌⊎◌, List, [], ◌∷◌, ◌++◌, map}
use Rattle.character_texts.specs.Texts.{IsBadPlaceBy, IsTextBy}

-- the character of a bit, `0` or `1`
abbrev pub character_of : ℕ → ℕ
character_of bit = 48 + bit

-- one character for each bit
abbrev pub characters_of : List ℕ → List ℕ
characters_of bits = map character_of bits

-- the characters of the bits, and then a newline
abbrev pub text_of_bits : List ℕ → List ℕ
text_of_bits bits = characters_of bits ++ 10 ∷ []

-- a text has these bits: it is their characters, with or without a newline behind
abbrev pub IsTextOf : List ℕ → List ℕ → Type 0
IsTextOf text bits = IsTextBy character_of text bits

-- the character `0` or `1`
abbrev pub IsCharacter : ℕ → Type 0
IsCharacter character = (character ≡ 48) ⊎ (character ≡ 49)

-- the least place of a text that holds neither `0` nor `1`, a newline at the very end excepted
abbrev pub IsBadPlace : List ℕ → ℕ → Type 0
IsBadPlace text at = IsBadPlaceBy IsCharacter text at
