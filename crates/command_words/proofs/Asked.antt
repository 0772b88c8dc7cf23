-- What words ask for: one thing, or they are refused for one.
use Rattle.std.proofs.Common.{◌≡◌, ◌⊎◌, inl, inr, ℕ, List, [], ◌∷◌, codes, refl, sym, ap, ◌∙◌, subst, arith}
use Rattle.echo_taps.proofs.Sames.{one_pairs}
use Rattle.echo_taps.proofs.Series.{taps_decided}
use Rattle.echo_taps.specs.declared.TapFault.{TapFault}
use Rattle.echo_taps.specs.declared.TapFault.TheVariants.{BadTaps}
use Rattle.echo_taps.specs.Taps.{pairs_of}
use Rattle.echo_taps.specs.Texts.{IsTapText, SaysPairs, SaysTaps}
use Rattle.fixed_complex.specs.declared.Cx.{Cx}
use Rattle.noise_script.proofs.Decisions.{script_decided}
use Rattle.noise_script.proofs.Sames.{one_script}
use Rattle.noise_script.specs.declared.Item.{Item}
use Rattle.noise_script.specs.declared.ScriptFault.{ScriptFault}
use Rattle.noise_script.specs.declared.ScriptFault.TheVariants.{BadScript}
use Rattle.noise_script.specs.Scripts.{IsScript, SaysScript}
use Rattle.word_grammar.proofs.Decided.{DecidedAt}
use Rattle.word_grammar.proofs.Places.{none_bad, one_place}
use Rattle.word_grammar.specs.Places.{IsBadAt}
use Rattle.report_lines.specs.declared.Refusal.{Refusal}
use Rattle.report_lines.specs.declared.Refusal.TheVariants as refusal
use Rattle.report_lines.specs.Refusals.{asking, step_of}
use Rattle.command_words.specs.declared.Command.{Command}
use Rattle.command_words.specs.declared.Command.TheVariants as command
use Rattle.command_words.specs.declared.Request.{Request}
use Rattle.command_words.specs.declared.Request.TheVariants.{Bits, Decode, DecodeSoft, Send, SendList, Receive, ReceiveAt, ReceivePhase, Noise, Echo, Rotate, Inspect, Drill, Show}
use Rattle.command_words.specs.Asking.{AreRefusedFor, AskFor, AskForNothing, CarryText, command_of, for_script, for_taps, for_words}
use Rattle.command_words.specs.Grammar.{Say, echo_words, noise_words}
use Rattle.command_words.proofs.Reading.{one_command, said_or_not, same_text, text_in}

-- the items of the script that a text says, if it says one
items_of : (text : List ℕ) → DecidedAt (IsScript 16) text → List Item
items_of text (inl script) = script.0
items_of text (inr bad) = []

decided_script : (text : List ℕ) → DecidedAt (IsScript 16) text
decided_script = script_decided 16 (omega arith)

items_back : (items : List Item) (text : List ℕ) → SaysScript 16 items text → items_of text (decided_script text) ≡ items
unfolding items_of
items_back items text says = back (decided_script text)
  where
    back : (decided : DecidedAt (IsScript 16) text) → items_of text decided ≡ items
    back (inl script) = one_script 16 script.0 items text script.1 says
    back (inr bad) = absurd (none_bad (IsScript 16) text bad.0 (items, says) bad.1)

-- the pairs of the taps that a text says, if it says some
pairs_in : (text : List ℕ) → DecidedAt IsTapText text → List Cx
pairs_in text (inl taps) = pairs_of taps.0
pairs_in text (inr bad) = []

pairs_back : (pairs : List Cx) (text : List ℕ) → SaysPairs pairs text → pairs_in text (taps_decided text) ≡ pairs
unfolding pairs_in
pairs_back pairs text says = back (taps_decided text)
  where
    back : (decided : DecidedAt IsTapText text) → pairs_in text decided ≡ pairs
    back (inl taps) = one_pairs text (pairs_of taps.0) pairs (taps.0, taps.1, refl) says
    back (inr bad) = absurd (none_bad IsTapText text bad.0 (says.0, says.1) bad.1)

-- the request of a command and the words that carry its text
request_in : List (List ℕ) → Command → Request
request_in words (command.Bits rate seed) = Bits rate seed
request_in words (command.Decode rate octets) = Decode rate octets
request_in words (command.DecodeSoft rate octets) = DecodeSoft rate octets
request_in words (command.Send rate seed) = Send rate seed
request_in words command.Noise = Noise (items_of (text_in words) (decided_script (text_in words)))
request_in words command.SendList = SendList
request_in words command.Echo = Echo (pairs_in (text_in words) (taps_decided (text_in words)))
request_in words (command.Rotate start step) = Rotate start step
request_in words command.Receive = Receive
request_in words (command.ReceiveAt start) = ReceiveAt start
request_in words (command.ReceivePhase start) = ReceivePhase start
request_in words command.Inspect = Inspect
request_in words (command.Drill count) = Drill count
request_in words (command.Show stage rate seed) = Show stage rate seed

asked_is_read : (words : List (List ℕ)) (request : Request) → CarryText words request → request_in words (command_of request) ≡ request
unfolding request_in
asked_is_read words (Bits rate seed) carried = refl
asked_is_read words (Decode rate octets) carried = refl
asked_is_read words (DecodeSoft rate octets) carried = refl
asked_is_read words (Send rate seed) carried = refl
asked_is_read words SendList carried = refl
asked_is_read words (Noise items) (text, are, says) = rw (same_text (codes "noise") words text are) (ap (λ list. Noise list) (items_back items text says))
asked_is_read words (Echo pairs) (text, are, says) = rw (same_text (codes "echo") words text are) (ap (λ list. Echo list) (pairs_back pairs text says))
asked_is_read words (Rotate start step) carried = refl
asked_is_read words Receive carried = refl
asked_is_read words (ReceiveAt start) carried = refl
asked_is_read words (ReceivePhase start) carried = refl
asked_is_read words Inspect carried = refl
asked_is_read words (Drill count) carried = refl
asked_is_read words (Show stage rate seed) carried = refl

-- words ask for at most one thing
pub one_request : (words : List (List ℕ)) (a b : Request) → AskFor words a → AskFor words b → a ≡ b
one_request words a b asks asks' =
    sym (asked_is_read words a asks.carried) ∙ ap (request_in words) (one_command words (command_of a) (command_of b) asks.said asks'.said) ∙ asked_is_read words b asks'.carried

-- words that say a command ask for something, or are refused for something
asked_where_said : (words : List (List ℕ)) (command : Command) → Say words command → ((request : Request) × AskFor words request) ⊎ ((refused : Refusal) × AreRefusedFor words refused)
asked_where_said words (command.Bits rate seed) says = inl (Bits rate seed, record { said = says; carried = tt })
asked_where_said words (command.Decode rate octets) says = inl (Decode rate octets, record { said = says; carried = tt })
asked_where_said words (command.DecodeSoft rate octets) says = inl (DecodeSoft rate octets, record { said = says; carried = tt })
asked_where_said words (command.Send rate seed) says = inl (Send rate seed, record { said = says; carried = tt })
asked_where_said words command.Noise says =
    elim (decided_script says.are.0) [
      | inl script ↦ inl (Noise script.0, record { said = says; carried = (says.are.0, says.are.1, script.1) })
      | inr bad ↦ inr (refusal.BadScript bad.0, for_script says.are.0 says.are.1 bad.0 bad.1 refl)
    ]
asked_where_said words command.SendList says = inl (SendList, record { said = says; carried = tt })
asked_where_said words command.Echo says =
    elim (taps_decided says.are.0) [
      | inl taps ↦ inl (Echo (pairs_of taps.0), record { said = says; carried = (says.are.0, says.are.1, (taps.0, taps.1, refl)) })
      | inr bad ↦ inr (refusal.BadTaps bad.0, for_taps says.are.0 says.are.1 bad.0 bad.1 refl)
    ]
asked_where_said words (command.Rotate start step) says = inl (Rotate start step, record { said = says; carried = tt })
asked_where_said words command.Receive says = inl (Receive, record { said = says; carried = tt })
asked_where_said words (command.ReceiveAt start) says = inl (ReceiveAt start, record { said = says; carried = tt })
asked_where_said words (command.ReceivePhase start) says = inl (ReceivePhase start, record { said = says; carried = tt })
asked_where_said words command.Inspect says = inl (Inspect, record { said = says; carried = tt })
asked_where_said words (command.Drill count) says = inl (Drill count, record { said = says; carried = tt })
asked_where_said words (command.Show stage rate seed) says = inl (Show stage rate seed, record { said = says; carried = tt })

-- all words ask for something, or are refused for something
pub asked_or_refused : (words : List (List ℕ)) → ((request : Request) × AskFor words request) ⊎ ((refused : Refusal) × AreRefusedFor words refused)
asked_or_refused words =
    elim (said_or_not words) [
      | inl said ↦ asked_where_said words said.0 said.1
      | inr none ↦ inr (refusal.Words, for_words none refl)
    ]

-- a request by words with a text behind `noise` has the script that the text says
script_asked : (words : List (List ℕ)) (request : Request) (text : List ℕ) → command_of request ≡ command.Noise → CarryText words request → words ≡ noise_words text → IsScript 16 text
script_asked words (Bits rate seed) text is carried are = cc
script_asked words (Decode rate octets) text is carried are = cc
script_asked words (DecodeSoft rate octets) text is carried are = cc
script_asked words (Send rate seed) text is carried are = cc
script_asked words SendList text is carried are = cc
script_asked words (Noise items) text is (text', are', says) are = (items, subst (λ t. SaysScript 16 items t) (sym (same_text (codes "noise") words text' are') ∙ same_text (codes "noise") words text are) says)
script_asked words (Echo pairs) text is carried are = cc
script_asked words (Rotate start step) text is carried are = cc
script_asked words Receive text is carried are = cc
script_asked words (ReceiveAt start) text is carried are = cc
script_asked words (ReceivePhase start) text is carried are = cc
script_asked words Inspect text is carried are = cc
script_asked words (Drill count) text is carried are = cc
script_asked words (Show stage rate seed) text is carried are = cc

-- .. and one with a text behind `echo` the pairs that the text says
taps_asked : (words : List (List ℕ)) (request : Request) (text : List ℕ) → command_of request ≡ command.Echo → CarryText words request → words ≡ echo_words text → IsTapText text
taps_asked words (Bits rate seed) text is carried are = cc
taps_asked words (Decode rate octets) text is carried are = cc
taps_asked words (DecodeSoft rate octets) text is carried are = cc
taps_asked words (Send rate seed) text is carried are = cc
taps_asked words (Noise items) text is carried are = cc
taps_asked words SendList text is carried are = cc
taps_asked words (Echo pairs) text is (text', are', (taps, says, _)) are = (taps, subst (λ t. SaysTaps 1 256 taps t) (sym (same_text (codes "echo") words text' are') ∙ same_text (codes "echo") words text are) says)
taps_asked words (Rotate start step) text is carried are = cc
taps_asked words Receive text is carried are = cc
taps_asked words (ReceiveAt start) text is carried are = cc
taps_asked words (ReceivePhase start) text is carried are = cc
taps_asked words Inspect text is carried are = cc
taps_asked words (Drill count) text is carried are = cc
taps_asked words (Show stage rate seed) text is carried are = cc

-- words that are refused ask for nothing
pub nothing_asked : (words : List (List ℕ)) (refused : Refusal) → AreRefusedFor words refused → AskForNothing words
nothing_asked words refused (for_words none is) request asks = none (command_of request) asks.said
nothing_asked words refused (for_script text are at bad is) request asks =
    let same = one_command words (command_of request) command.Noise asks.said (record { in_range = tt; are = (text, are) }) in
    none_bad (IsScript 16) text at (script_asked words request text same asks.carried are) bad
nothing_asked words refused (for_taps text are at bad is) request asks =
    let same = one_command words (command_of request) command.Echo asks.said (record { in_range = tt; are = (text, are) }) in
    none_bad IsTapText text at (taps_asked words request text same asks.carried are) bad

-- words that are refused for a text behind a name say its command
said_noise : (words : List (List ℕ)) (text : List ℕ) → words ≡ noise_words text → Say words command.Noise
said_noise words text are = record { in_range = tt; are = (text, are) }

said_echo : (words : List (List ℕ)) (text : List ℕ) → words ≡ echo_words text → Say words command.Echo
said_echo words text are = record { in_range = tt; are = (text, are) }

-- words are refused for at most one thing
pub one_refusal : (words : List (List ℕ)) (a b : Refusal) → AreRefusedFor words a → AreRefusedFor words b → a ≡ b
one_refusal words a b (for_script text are at bad is) (for_script text' are' at' bad' is') =
    let same : text' ≡ text = sym (same_text (codes "noise") words text' are') ∙ same_text (codes "noise") words text are in
    is ∙ ap (λ n. refusal.BadScript n) (one_place (IsScript 16) text at at' bad (subst (λ t. IsBadAt (IsScript 16) t at') same bad')) ∙ sym is'
one_refusal words a b (for_taps text are at bad is) (for_taps text' are' at' bad' is') =
    let same : text' ≡ text = sym (same_text (codes "echo") words text' are') ∙ same_text (codes "echo") words text are in
    is ∙ ap (λ n. refusal.BadTaps n) (one_place IsTapText text at at' bad (subst (λ t. IsBadAt IsTapText t at') same bad')) ∙ sym is'
one_refusal words a b (for_script text are at bad is) (for_taps text' are' at' bad' is') =
    let same = one_command words command.Noise command.Echo (said_noise words text are) (said_echo words text' are') in cc
one_refusal words a b (for_taps text are at bad is) (for_script text' are' at' bad' is') =
    let same = one_command words command.Noise command.Echo (said_noise words text' are') (said_echo words text are) in cc
one_refusal words a b (for_script text are at bad is) (for_words none is') = absurd (none command.Noise (said_noise words text are))
one_refusal words a b (for_words none is) (for_script text are at bad is') = absurd (none command.Noise (said_noise words text are))
one_refusal words a b (for_taps text are at bad is) (for_words none is') = absurd (none command.Echo (said_echo words text are))
one_refusal words a b (for_words none is) (for_taps text are at bad is') = absurd (none command.Echo (said_echo words text are))
one_refusal words a b (for_words none is) (for_words none' is') = is ∙ sym is'

-- it is a refusal of the words
pub refused_at : (words : List (List ℕ)) (refused : Refusal) → AreRefusedFor words refused → step_of refused ≡ asking
refused_at words refused (for_script text are at bad is) = rw is refl
refused_at words refused (for_taps text are at bad is) = rw is refl
refused_at words refused (for_words none is) = rw is refl

-- the place of a text that is none of taps
pub of_tap_fault : (fault : TapFault) → (at : ℕ) × (fault ≡ BadTaps at)
of_tap_fault (BadTaps at) = (at, refl)

-- the place of a text that is no script
pub of_fault : (fault : ScriptFault) → (at : ℕ) × (fault ≡ BadScript at)
of_fault (BadScript at) = (at, refl)
