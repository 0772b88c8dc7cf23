-- The words that say a command (own): the grammar. A number is in decimal digits with no sign and no
-- leading zero.
use Rattle.std.specs.Prelude.{Vec, String, string_bytes, map, ℕ, ◌≤◌, ◌≡◌, ◌≢◌, List, [], ◌∷◌, codes, decimal}
use Rattle.std.specs.Global.{Global}
use Rattle.rate_table.specs.declared.Rate.{Rate}
use Rattle.rate_table.specs.Symbols.{IsLength}
use Rattle.rate_table.specs.Table.{row_of}
use Rattle.ofdm_scrambler.specs.Sequence.{IsSeed}
use Rattle.command_words.specs.declared.Stage.{Stage}
use Rattle.command_words.specs.declared.Stage.TheVariants.{Scrambled, Coded, Kept, Interleaved, Points, Header, Samples}
use Rattle.command_words.specs.declared.Command.{Command}
use Rattle.command_words.specs.declared.Command.TheVariants.{Bits, Decode, DecodeSoft, Send, SendList, Receive, ReceiveAt, ReceivePhase, Noise, Echo, Rotate, Inspect, Drill, Show}

-- the texts of the words of the command line
abbrev pub texts_of : Vec (String Global) Global → List (List ℕ)
texts_of words = map string_bytes words.items

-- a rate's word: its megabits a second
abbrev pub rate_word : Rate → List ℕ
rate_word rate = decimal (row_of rate).mbps

-- a stage's word
abbrev pub stage_word : Stage → List ℕ
stage_word Scrambled = codes "scrambled"
stage_word Coded = codes "coded"
stage_word Kept = codes "kept"
stage_word Interleaved = codes "interleaved"
stage_word Points = codes "points"
stage_word Header = codes "header"
stage_word Samples = codes "samples"

-- the words that ask for noise by a text
abbrev pub noise_words : List ℕ → List (List ℕ)
noise_words text = codes "noise" ∷ text ∷ []

-- and for an echo
abbrev pub echo_words : List ℕ → List (List ℕ)
echo_words text = codes "echo" ∷ text ∷ []

-- the words are a command's, its name first; behind `noise` and behind `echo` any one word stands
abbrev pub AreWordsOf : Command → List (List ℕ) → Type 0
AreWordsOf (Bits rate seed) words = words ≡ codes "bits" ∷ rate_word rate ∷ decimal seed ∷ []
AreWordsOf (Decode rate octets) words =
    words ≡ codes "decode" ∷ rate_word rate ∷ decimal octets ∷ []
AreWordsOf (DecodeSoft rate octets) words =
    words ≡ codes "decode-soft" ∷ rate_word rate ∷ decimal octets ∷ []
AreWordsOf (Send rate seed) words = words ≡ codes "send" ∷ rate_word rate ∷ decimal seed ∷ []
AreWordsOf Noise words = (text : List ℕ) × (words ≡ noise_words text)
AreWordsOf SendList words = words ≡ codes "send-list" ∷ []
AreWordsOf Echo words = (text : List ℕ) × (words ≡ echo_words text)
AreWordsOf (Rotate start step) words = words ≡ codes "rotate" ∷ decimal start ∷ decimal step ∷ []
AreWordsOf Receive words = words ≡ codes "receive" ∷ []
AreWordsOf (ReceiveAt start) words = words ≡ codes "receive-at" ∷ decimal start ∷ []
AreWordsOf (ReceivePhase start) words = words ≡ codes "receive-phase" ∷ decimal start ∷ []
AreWordsOf Inspect words = words ≡ codes "inspect" ∷ []
AreWordsOf (Drill count) words = words ≡ codes "drill" ∷ decimal count ∷ []
AreWordsOf (Show stage rate seed) words =
    words ≡ codes "show" ∷ stage_word stage ∷ rate_word rate ∷ decimal seed ∷ []

-- a number is from a least to a most one
abbrev pub IsFrom : ℕ → ℕ → ℕ → Type 0
IsFrom least most number = (least ≤ number) × (number ≤ most)

-- the last place at which a capture of at most 2^24 samples has one
abbrev pub most_start : ℕ
most_start = 16777215

-- the numbers of a command are within their ranges
abbrev pub IsInRange : Command → Type 0
IsInRange (Bits rate seed) = IsSeed seed
IsInRange (Decode rate octets) = IsLength octets
IsInRange (DecodeSoft rate octets) = IsLength octets
IsInRange (Send rate seed) = IsSeed seed
IsInRange Noise = Unit {0}
IsInRange SendList = Unit {0}
IsInRange Echo = Unit {0}
IsInRange (Rotate start step) = IsFrom 0 most_start start × IsFrom 0 63 step
IsInRange Receive = Unit {0}
IsInRange (ReceiveAt start) = IsFrom 0 most_start start
IsInRange (ReceivePhase start) = IsFrom 0 most_start start
IsInRange Inspect = Unit {0}
IsInRange (Drill count) = IsFrom 1 1000 count
IsInRange (Show stage rate seed) = IsSeed seed

-- the words say the command
pub record Say (words : List (List ℕ)) (command : Command) : Type 0 where
  pub in_range : IsInRange command
  pub are : AreWordsOf command words

-- the words say no command
abbrev pub SayNothing : List (List ℕ) → Type 0
SayNothing words = (command : Command) → ¬ Say words command

-- a word writes no number from a least to a most one
abbrev pub WritesNoneFrom : ℕ → ℕ → List ℕ → Type 0
WritesNoneFrom least most word = (number : ℕ) → IsFrom least most number → word ≢ decimal number

-- a word names no rate
abbrev pub NamesNoRate : List ℕ → Type 0
NamesNoRate word = (rate : Rate) → word ≢ rate_word rate

-- a word names no stage
abbrev pub NamesNoStage : List ℕ → Type 0
NamesNoStage word = (stage : Stage) → word ≢ stage_word stage
