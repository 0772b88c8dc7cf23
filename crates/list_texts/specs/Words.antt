-- The words of a line (own).
use Rattle.std.specs.Prelude.{ℕ, ◌≤◌, ◌≡◌, ◌⊎◌, List, [], ◌∷◌, ◌++◌, All, codes, drop, length, slice_index, take}
use Rattle.std.specs.Fmt.{decimal}
use Rattle.bit_lists.specs.Bits.{AreOctets}
use Rattle.hex.specs.Hex.{encode_lower}
use Rattle.hex_digits.specs.Digits.{IsDigit}
use Rattle.list_texts.specs.declared.words.Head.{Head}
use Rattle.ofdm_scrambler.specs.Sequence.{IsSeed}
use Rattle.rate_table.specs.Symbols.{IsLength}
use Rattle.rate_table.specs.Table.{row_of}
use Rattle.rate_table.specs.declared.Rate.{Rate}
use Rattle.rate_table.specs.declared.Rate.TheVariants.{R6, R9, R12, R18, R24, R36, R48, R54}
use Rattle.word_grammar.specs.Numbers.{SaysNumber}
use Rattle.word_grammar.specs.Pairs.{SaysPair, SaysSome}

-- a word begins with so many digits, and no more
pub record IsDigitsEnd (word : List ℕ) (end : ℕ) : Type 0 where
  pub within : end ≤ length word
  pub digits : All IsDigit (take end word)
  pub stops : (end ≡ length word) ⊎ ¬ IsDigit (slice_index word end)

-- a word is the digits of 1 to 4095 octets
pub record SaysOctets (octets word : List ℕ) : Type 0 where
  pub long : IsLength (length octets)
  pub octets_are : AreOctets octets
  pub is : word ≡ encode_lower octets

-- a word is the digits of some
abbrev pub AreDigits : List ℕ → Type 0
AreDigits = SaysSome SaysOctets

-- a word is the rate's: its megabits a second
abbrev pub SaysRate : Rate → List ℕ → Type 0
SaysRate rate word = word ≡ decimal (row_of rate).mbps

-- a word is some rate's
abbrev pub IsRate : List ℕ → Type 0
IsRate = SaysSome SaysRate

-- the digits of that number
abbrev pub rate_name : Rate → List ℕ
rate_name R6 = codes "6"
rate_name R9 = codes "9"
rate_name R12 = codes "12"
rate_name R18 = codes "18"
rate_name R24 = codes "24"
rate_name R36 = codes "36"
rate_name R48 = codes "48"
rate_name R54 = codes "54"

-- those of all rates
abbrev pub rate_names : List (List ℕ)
rate_names =
    codes "6" ∷ codes "9" ∷ codes "12" ∷ codes "18" ∷ codes "24" ∷ codes "36" ∷ codes "48"
    ∷ codes "54" ∷ []

-- a gap and digits
abbrev pub IsGapped : List ℕ → Type 0
IsGapped = SaysPair 32 (SaysNumber 16 1048576) (λ _. AreDigits)

-- a seed, a gap and digits
abbrev pub IsSeeded : List ℕ → Type 0
IsSeeded = SaysPair 32 (SaysNumber 1 127) (λ _. IsGapped)

-- words are the gap and digits, which stand from a place on
pub record SaysGapped (gap digits : ℕ) (words : List ℕ) : Type 0 where
  pub least_gap : 16 ≤ gap
  pub most_gap : gap ≤ 1048576
  pub within : digits ≤ length words
  pub are : AreDigits (drop digits words)
  pub is : words ≡ decimal gap ++ 32 ∷ drop digits words

-- words are the seed, the gap, and digits, which stand from a place on
pub record SaysSeeded (seed gap digits : ℕ) (words : List ℕ) : Type 0 where
  pub is_seed : IsSeed seed
  pub least_gap : 16 ≤ gap
  pub most_gap : gap ≤ 1048576
  pub within : digits ≤ length words
  pub are : AreDigits (drop digits words)
  pub is : words ≡ decimal seed ++ 32 ∷ (decimal gap ++ 32 ∷ drop digits words)

-- a line is what its head says, and digits, which stand from a place on
pub record SaysHead (head : Head) (line : List ℕ) : Type 0 where
  pub is_seed : IsSeed head.seed
  pub least_gap : 16 ≤ head.gap
  pub most_gap : head.gap ≤ 1048576
  pub within : head.digits ≤ length line
  pub are : AreDigits (drop head.digits line)
  pub is : line
      ≡ decimal (row_of head.rate).mbps
      ++ 32 ∷ (decimal head.seed ++ 32 ∷ (decimal head.gap ++ 32 ∷ drop head.digits line))
