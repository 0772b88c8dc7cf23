-- The command that words say, read back from them: so no two commands have the same words, and words say a command or none.
use Rattle.std.proofs.Common.{◌≡◌, ◌<◌, ◌^◌, ◌⊎◌, inl, inr, ℕ, Bool, true, false, List, [], ◌∷◌, Option, Some, None, codes, decimal, cond, refl, sym, ap, ◌∙◌, subst, lit≤, arith}
use Rattle.std.proofs.lemmas.Bool.{cases_lt, false≢true}
use Rattle.std.proofs.lemmas.Fmt.{decimal_is_IsNumeral}
use Rattle.std.proofs.lemmas.Slice.Eq.{slice_eq-Decides, bytes_eq-Decides}
use Rattle.std.specs.Cmp.Lexicographic.{pointwise}
use Rattle.std.specs.Str.{bytes_eq}
use Rattle.std.specs.Str.Parse.{digits_value}
use Rattle.rate_table.proofs.ByRate.{by_rate, rate_of_mbps, rate_of_mbps-of}
use Rattle.rate_table.specs.declared.Rate.{Rate}
use Rattle.rate_table.specs.Table.{row_of}
use Rattle.command_words.specs.declared.Command.{Command}
use Rattle.command_words.specs.declared.Command.TheVariants.{Bits, Decode, DecodeSoft, Send, SendList, Receive, ReceiveAt, ReceivePhase, Noise, Echo, Rotate, Inspect, Drill, Show}
use Rattle.command_words.specs.declared.Stage.{Stage}
use Rattle.command_words.specs.declared.Stage.TheVariants.{Scrambled, Coded, Kept, Interleaved, Points, Header, Samples}
use Rattle.command_words.specs.Grammar.{AreWordsOf, IsFrom, IsInRange, Say, SayNothing, echo_words, most_start, noise_words, rate_word, stage_word}

-- a fact or its contrary
abbrev pub Decided : Type 0 → Type 0
Decided P = P ⊎ ¬ P

-- the number, the rate and the stage that a word says, if it says one
number_in : List ℕ → ℕ
number_in word = digits_value 10 word

number_back : (number : ℕ) → number < 2 ^ 64 → number_in (decimal number) ≡ number
unfolding number_in
number_back number small = (decimal_is_IsNumeral number small).1

-- a rate's megabits a second are from 6 to 60
pub mbps_from : (rate : Rate) → IsFrom 6 60 (row_of rate).mbps
mbps_from =
    by_rate (λ rate. IsFrom 6 60 (row_of rate).mbps)
    (lit≤ tt, lit≤ tt) (lit≤ tt, lit≤ tt) (lit≤ tt, lit≤ tt) (lit≤ tt, lit≤ tt) (lit≤ tt, lit≤ tt) (lit≤ tt, lit≤ tt) (lit≤ tt, lit≤ tt) (lit≤ tt, lit≤ tt)

rate_in : List ℕ → Rate
rate_in word = rate_of_mbps (number_in word)

rate_back : (rate : Rate) → rate_in (rate_word rate) ≡ rate
unfolding rate_in
rate_back rate = ap rate_of_mbps (number_back (row_of rate).mbps (let range = mbps_from rate in omega (arith, range.1))) ∙ rate_of_mbps-of rate

stage_in : List ℕ → Stage
stage_in word =
    cond (bytes_eq word (codes "scrambled")) Scrambled
    (cond (bytes_eq word (codes "coded")) Coded
    (cond (bytes_eq word (codes "kept")) Kept
    (cond (bytes_eq word (codes "interleaved")) Interleaved
    (cond (bytes_eq word (codes "points")) Points (cond (bytes_eq word (codes "header")) Header Samples)))))

stage_back : (stage : Stage) → stage_in (stage_word stage) ≡ stage
unfolding stage_in
stage_back Scrambled = refl
stage_back Coded = refl
stage_back Kept = refl
stage_back Interleaved = refl
stage_back Points = refl
stage_back Header = refl
stage_back Samples = refl

-- the command that words say, if they say one: by their number and the first of them
command_in : List (List ℕ) → Option Command
command_in (name ∷ []) =
    cond (bytes_eq name (codes "inspect")) (Some Inspect)
    (cond (bytes_eq name (codes "receive")) (Some Receive)
    (cond (bytes_eq name (codes "send-list")) (Some SendList) None))
command_in (name ∷ text ∷ []) =
    cond (bytes_eq name (codes "noise")) (Some Noise)
    (cond (bytes_eq name (codes "echo")) (Some Echo)
    (cond (bytes_eq name (codes "drill")) (Some (Drill (number_in text)))
    (cond (bytes_eq name (codes "receive-at")) (Some (ReceiveAt (number_in text)))
    (cond (bytes_eq name (codes "receive-phase")) (Some (ReceivePhase (number_in text))) None))))
command_in (name ∷ a ∷ b ∷ []) =
    cond (bytes_eq name (codes "bits")) (Some (Bits (rate_in a) (number_in b)))
    (cond (bytes_eq name (codes "decode")) (Some (Decode (rate_in a) (number_in b)))
    (cond (bytes_eq name (codes "decode-soft")) (Some (DecodeSoft (rate_in a) (number_in b)))
    (cond (bytes_eq name (codes "send")) (Some (Send (rate_in a) (number_in b)))
    (cond (bytes_eq name (codes "rotate")) (Some (Rotate (number_in a) (number_in b))) None))))
command_in (name ∷ a ∷ b ∷ c ∷ []) = cond (bytes_eq name (codes "show")) (Some (Show (stage_in a) (rate_in b) (number_in c))) None
command_in words = None

reads_back : (words : List (List ℕ)) (command : Command) → IsInRange command → AreWordsOf command words → command_in words ≡ Some command
unfolding command_in
reads_back words (Bits rate seed) range are = rw (are, rate_back rate, number_back seed (omega (arith, range.1))) refl
reads_back words (Decode rate octets) range are = rw (are, rate_back rate, number_back octets (omega (arith, range.1))) refl
reads_back words (DecodeSoft rate octets) range are = rw (are, rate_back rate, number_back octets (omega (arith, range.1))) refl
reads_back words (Send rate seed) range are = rw (are, rate_back rate, number_back seed (omega (arith, range.1))) refl
reads_back words Noise range (text, are) = rw are refl
reads_back words SendList range are = rw are refl
reads_back words Echo range (text, are) = rw are refl
reads_back words (Rotate start step) range are = rw (are, number_back start (omega (arith, range.0.1)), number_back step (omega (arith, range.1.1))) refl
reads_back words Receive range are = rw are refl
reads_back words (ReceiveAt start) range are = rw (are, number_back start (omega (arith, range.1))) refl
reads_back words (ReceivePhase start) range are = rw (are, number_back start (omega (arith, range.1))) refl
reads_back words Inspect range are = rw are refl
reads_back words (Drill count) range are = rw (are, number_back count (omega (arith, range.1))) refl
reads_back words (Show stage rate seed) range are = rw (are, stage_back stage, rate_back rate, number_back seed (omega (arith, range.1))) refl

-- what is read from words that say a command
said_is_read : (words : List (List ℕ)) (command : Command) → Say words command → command_in words ≡ Some command
said_is_read words command says = reads_back words command says.in_range says.are

-- words say at most one command
pub one_command : (words : List (List ℕ)) (a b : Command) → Say words a → Say words b → a ≡ b
one_command words a b says says' = let read = said_is_read words a says in let read' = said_is_read words b says' in cc

-- a number is from a least to a most one, or not
from_decided : (least most number : ℕ) → Decided (IsFrom least most number)
from_decided least most number =
    elim (cases_lt number least) [
      | inl low ↦ inr (λ is. omega (arith, is.0))
      | inr some ↦ elim (cases_lt most number) [ inl high ↦ inr (λ is. omega (arith, is.1)) | inr most ↦ inl (omega arith, omega arith) ]
    ]

-- two facts that are decided are, together
both_decided : {P Q : Type 0} → Decided P → Decided Q → Decided (P × Q)
both_decided (inl p) (inl q) = inl (p, q)
both_decided (inl p) (inr out) = inr (λ both. out both.1)
both_decided (inr out) q = inr (λ both. out both.0)

-- the numbers of a command are in range, or not
range_decided : (command : Command) → Decided (IsInRange command)
range_decided (Bits rate seed) = from_decided 1 127 seed
range_decided (Decode rate octets) = from_decided 1 4095 octets
range_decided (DecodeSoft rate octets) = from_decided 1 4095 octets
range_decided (Send rate seed) = from_decided 1 127 seed
range_decided Noise = inl tt
range_decided SendList = inl tt
range_decided Echo = inl tt
range_decided (Rotate start step) = both_decided (from_decided 0 most_start start) (from_decided 0 63 step)
range_decided Receive = inl tt
range_decided (ReceiveAt start) = from_decided 0 most_start start
range_decided (ReceivePhase start) = from_decided 0 most_start start
range_decided Inspect = inl tt
range_decided (Drill count) = from_decided 1 1000 count
range_decided (Show stage rate seed) = from_decided 1 127 seed

-- two lists of words are the same or not
same_by_test : (xs ys : List (List ℕ)) (r : Bool) → (r ≡ true → xs ≡ ys) × (xs ≡ ys → r ≡ true) → Decided (xs ≡ ys)
same_by_test xs ys true means = inl (means.0 refl)
same_by_test xs ys false means = inr (λ same. false≢true (means.1 same))

pub same_words : (xs ys : List (List ℕ)) → Decided (xs ≡ ys)
same_words xs ys = same_by_test xs ys (pointwise bytes_eq xs ys) (slice_eq-Decides bytes_eq-Decides xs ys (pointwise bytes_eq xs ys) refl)

-- the second of two words
pub text_in : List (List ℕ) → List ℕ
text_in (name ∷ text ∷ []) = text
text_in words = []

-- words that ask by a text ask by that one
pub same_text : (name : List ℕ) (words : List (List ℕ)) (text : List ℕ) → words ≡ name ∷ text ∷ [] → text_in words ≡ text
unfolding text_in
same_text name words text are = ap text_in are

-- words are a command's, or not
text_decided : (name : List ℕ) (words : List (List ℕ)) → Decided ((text : List ℕ) × (words ≡ name ∷ text ∷ []))
text_decided name words =
    elim (same_words words (name ∷ text_in words ∷ [])) [
      | inl same ↦ inl (text_in words, same)
      | inr differ ↦ inr (λ are. differ (are.1 ∙ ap (λ text. name ∷ text ∷ []) (sym (same_text name words are.0 are.1))))
    ]

words_decided : (words : List (List ℕ)) (command : Command) → Decided (AreWordsOf command words)
words_decided words (Bits rate seed) = same_words words _
words_decided words (Decode rate octets) = same_words words _
words_decided words (DecodeSoft rate octets) = same_words words _
words_decided words (Send rate seed) = same_words words _
words_decided words SendList = same_words words _
words_decided words Noise = text_decided (codes "noise") words
words_decided words Echo = text_decided (codes "echo") words
words_decided words (Rotate start step) = same_words words _
words_decided words Receive = same_words words _
words_decided words (ReceiveAt start) = same_words words _
words_decided words (ReceivePhase start) = same_words words _
words_decided words Inspect = same_words words _
words_decided words (Drill count) = same_words words _
words_decided words (Show stage rate seed) = same_words words _

-- words say a command or not
said_decided : (words : List (List ℕ)) (command : Command) → Decided (Say words command)
said_decided words command =
    elim (range_decided command) [
      | inr out ↦ inr (λ says. out says.in_range)
      | inl in_range ↦ elim (words_decided words command) [
        | inl are ↦ inl (record { in_range = in_range; are = are })
        | inr others ↦ inr (λ says. others says.are)
      ]
    ]

-- words say some command or none
said_where_read : (words : List (List ℕ)) (read : Option Command) → command_in words ≡ read → ((command : Command) × Say words command) ⊎ SayNothing words
said_where_read words None is = inr (λ command says. let read = said_is_read words command says in cc)
said_where_read words (Some command) is =
    elim (said_decided words command) [
      | inl says ↦ inl (command, says)
      | inr unsaid ↦ inr (λ other says. let read = said_is_read words other says in let same : other ≡ command = cc in unsaid (subst (Say words) same says))
    ]

pub said_or_not : (words : List (List ℕ)) → ((command : Command) × Say words command) ⊎ SayNothing words
said_or_not words = said_where_read words (command_in words) refl
