-- The texts of taps (own).
use Rattle.std.specs.Prelude.{ℕ, ◌+◌, ◌-◌, ◌≤◌, ◌≡◌, List, [], ◌∷◌, ◌++◌, length, ℤ, unsigned_abs}
use Rattle.std.specs.Fmt.{decimal, signed_decimal}
use Rattle.std.specs.List.{sum_by}
use Rattle.fixed_complex.specs.declared.Cx.{Cx}
use Rattle.echo_taps.specs.declared.Tap.{Tap}
use Rattle.echo_taps.specs.declared.TapFault.{TapFault}
use Rattle.echo_taps.specs.declared.TapFault.TheVariants.{BadTaps}
use Rattle.echo_taps.specs.Taps.{Rise, pairs_of, size_of}
use Rattle.word_grammar.specs.Numbers.{SaysNumber}
use Rattle.word_grammar.specs.Pairs.{SaysPair}
use Rattle.word_grammar.specs.Signs.{IsSigned, SaysSigned}

-- the two numbers of a tap, with a space between
abbrev pub sizes_text : ℤ → ℤ → List ℕ
sizes_text re im = signed_decimal re ++ 32 ∷ signed_decimal im

-- the text of a tap: its delay and its two numbers, with a space between two
abbrev pub tap_text : Tap → List ℕ
tap_text tap = decimal tap.delay ++ 32 ∷ sizes_text tap.re tap.im

-- the text of taps: that of each, with a semicolon and a space between two
abbrev pub taps_text : List Tap → List ℕ
taps_text [] = []
taps_text (tap ∷ []) = tap_text tap
taps_text (tap ∷ next ∷ taps) = tap_text tap ++ 59 ∷ 32 ∷ taps_text (next ∷ taps)

-- a text is the taps': at least one, whose delays rise from a least to 7, and whose sizes are at most so
-- much together
pub record SaysTaps (least most : ℕ) (taps : List Tap) (text : List ℕ) : Type 0 where
  pub some : 1 ≤ length taps
  pub rise : Rise least taps
  pub sizes : sum_by size_of taps ≤ most
  pub is : text ≡ taps_text taps

-- a text is that of some taps
abbrev pub AreTaps : ℕ → ℕ → List ℕ → Type 0
AreTaps least most text = (taps : List Tap) × SaysTaps least most taps text

-- a text of taps: delays from 1 on, and sizes of at most 256 together
abbrev pub IsTapText : List ℕ → Type 0
IsTapText text = AreTaps 1 256 text

-- a text says these eight pairs
abbrev pub SaysPairs : List Cx → List ℕ → Type 0
SaysPairs pairs text = (taps : List Tap) × SaysTaps 1 256 taps text × (pairs ≡ pairs_of taps)

-- the place of a text that is none of taps
abbrev pub place_of : TapFault → ℕ
place_of (BadTaps at) = at

-- a text is one tap's, with a delay from a least to 7, and a size of at most so much
pub record SaysTap (least most : ℕ) (tap : Tap) (text : List ℕ) : Type 0 where
  pub from : least ≤ tap.delay
  pub up_to : tap.delay ≤ 7
  pub size : size_of tap ≤ most
  pub is : text ≡ tap_text tap

-- a text is some tap's
abbrev pub IsTap : ℕ → ℕ → List ℕ → Type 0
IsTap least most text = (tap : Tap) × SaysTap least most tap text

-- two numbers of at most so much together in size, with a space between
pub record SaysSizes (most : ℕ) (re im : ℤ) (text : List ℕ) : Type 0 where
  pub size : unsigned_abs re + unsigned_abs im ≤ most
  pub is : text ≡ sizes_text re im

-- some two: the second is of at most what the first leaves
abbrev pub AreSizes : ℕ → List ℕ → Type 0
AreSizes most =
    SaysPair 32 (SaysSigned most most)
    (λ re. IsSigned (most - unsigned_abs re) (most - unsigned_abs re))

-- a delay and two such numbers
abbrev pub AreDelayed : ℕ → ℕ → List ℕ → Type 0
AreDelayed least most = SaysPair 32 (SaysNumber least 7) (λ _. AreSizes most)
