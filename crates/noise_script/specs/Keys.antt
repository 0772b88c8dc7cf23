-- The keys of items, and the words behind them (own).
use Rattle.std.specs.Prelude.{ℕ, ◌-◌, ◌^◌, ◌≤◌, ◌≡◌, List, [], ◌∷◌, ◌++◌, codes, ℤ, FitsSigned}
use Rattle.std.specs.Fmt.{decimal, signed_decimal}
use Rattle.std.specs.Int.{w16}
use Rattle.noise_script.specs.Items.{IsInRange}
use Rattle.noise_script.specs.declared.Item.{Item}
use Rattle.noise_script.specs.declared.Item.TheVariants as item
use Rattle.noise_script.specs.declared.reading.Key.{Key}
use Rattle.noise_script.specs.declared.reading.Key.TheVariants.{Lead, Trail, Uniform, Spike, Cut}
use Rattle.word_grammar.specs.Numbers.{IsNumber, SaysNumber}
use Rattle.word_grammar.specs.Pairs.{SaysPair, SaysSome}
use Rattle.word_grammar.specs.Signs.{IsSigned, SaysSigned}

-- the word of a key
abbrev pub key_name : Key → List ℕ
key_name Lead = codes "lead"
key_name Trail = codes "trail"
key_name Uniform = codes "uniform"
key_name Spike = codes "spike"
key_name Cut = codes "cut"

-- the words of all keys
abbrev pub key_names : List (List ℕ)
key_names = codes "lead" ∷ codes "trail" ∷ codes "uniform" ∷ codes "spike" ∷ codes "cut" ∷ []

-- a word is the key's
abbrev pub SaysKey : Key → List ℕ → Type 0
SaysKey key word = word ≡ key_name key

-- a word is some key's
abbrev pub IsKey : List ℕ → Type 0
IsKey = SaysSome SaysKey

-- two numbers, each from 0 to its most, with a space between
pub record SaysTwo (first second a b : ℕ) (text : List ℕ) : Type 0 where
  pub a_within : a ≤ first
  pub b_within : b ≤ second
  pub is : text ≡ decimal a ++ 32 ∷ decimal b

-- some two
abbrev pub AreTwo : ℕ → ℕ → List ℕ → Type 0
AreTwo first second = SaysPair 32 (SaysNumber 0 first) (λ _. IsNumber 0 second)

-- the components of a sample, with a space between
pub record SaysComponents (i q : ℤ) (text : List ℕ) : Type 0 where
  pub i_fits : FitsSigned w16 i
  pub q_fits : FitsSigned w16 q
  pub is : text ≡ signed_decimal i ++ 32 ∷ signed_decimal q

-- those of some sample
abbrev pub AreComponents : List ℕ → Type 0
AreComponents = SaysPair 32 (SaysSigned 32768 32767) (λ _. IsSigned 32768 32767)

-- a place, and the components of a sample
pub record SaysSpike (at : ℕ) (i q : ℤ) (text : List ℕ) : Type 0 where
  pub within : at ≤ 33554432
  pub i_fits : FitsSigned w16 i
  pub q_fits : FitsSigned w16 q
  pub is : text ≡ decimal at ++ 32 ∷ (signed_decimal i ++ 32 ∷ signed_decimal q)

-- some of each
abbrev pub IsSpike : List ℕ → Type 0
IsSpike = SaysPair 32 (SaysNumber 0 33554432) (λ _. AreComponents)

-- words may stand behind a key
abbrev pub IsBehind : Key → List ℕ → Type 0
IsBehind Lead = IsNumber 0 1048576
IsBehind Trail = IsNumber 0 1048576
IsBehind Uniform = AreTwo 32767 (2 ^ 64 - 1)
IsBehind Spike = IsSpike
IsBehind Cut = AreTwo 33554432 33554432

-- the key of an item
abbrev pub key_of : Item → Key
key_of (item.Lead count) = Lead
key_of (item.Trail count) = Trail
key_of (item.Uniform bound seed) = Uniform
key_of (item.Spike at i q) = Spike
key_of (item.Cut at count) = Cut

-- the words behind an item's key
abbrev pub words_behind : Item → List ℕ
words_behind (item.Lead count) = decimal count
words_behind (item.Trail count) = decimal count
words_behind (item.Uniform bound seed) = decimal bound ++ 32 ∷ decimal seed
words_behind (item.Spike at i q) = decimal at ++ 32 ∷ (signed_decimal i ++ 32 ∷ signed_decimal q)
words_behind (item.Cut at count) = decimal at ++ 32 ∷ decimal count

-- the words behind a key are the item's
pub record SaysBehind (key : Key) (item : Item) (words : List ℕ) : Type 0 where
  pub of : key ≡ key_of item
  pub in_range : IsInRange item
  pub is : words ≡ words_behind item
