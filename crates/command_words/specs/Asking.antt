-- What the words ask for (own): a command, and what its text says.
use Rattle.std.specs.Prelude.{ℕ, ◌≡◌, List}
use Rattle.word_grammar.specs.Places.{IsBadAt}
use Rattle.echo_taps.specs.Texts.{IsTapText, SaysPairs}
use Rattle.noise_script.specs.Scripts.{IsScript, SaysScript}
use Rattle.report_lines.specs.declared.Refusal.{Refusal}
use Rattle.report_lines.specs.declared.Refusal.TheVariants.{BadScript, BadTaps, Words}
use Rattle.command_words.specs.declared.Command.{Command}
use Rattle.command_words.specs.declared.Command.TheVariants as command
use Rattle.command_words.specs.declared.Request.{Request}
use Rattle.command_words.specs.declared.Request.TheVariants.{Bits, Decode, DecodeSoft, Send, SendList, Receive, ReceiveAt, ReceivePhase, Noise, Echo, Rotate, Inspect, Drill, Show}
use Rattle.command_words.specs.Grammar.{Say, SayNothing, echo_words, noise_words}

-- the command of a request
abbrev pub command_of : Request → Command
command_of (Bits rate seed) = command.Bits rate seed
command_of (Decode rate octets) = command.Decode rate octets
command_of (DecodeSoft rate octets) = command.DecodeSoft rate octets
command_of (Send rate seed) = command.Send rate seed
command_of (Noise items) = command.Noise
command_of SendList = command.SendList
command_of (Echo pairs) = command.Echo
command_of (Rotate start step) = command.Rotate start step
command_of Receive = command.Receive
command_of (ReceiveAt start) = command.ReceiveAt start
command_of (ReceivePhase start) = command.ReceivePhase start
command_of Inspect = command.Inspect
command_of (Drill count) = command.Drill count
command_of (Show stage rate seed) = command.Show stage rate seed

-- the words carry the text of a request: that of its script or of its taps, if it
-- has one
abbrev pub CarryText : List (List ℕ) → Request → Type 0
CarryText words (Noise items) =
    (text : List ℕ) × (words ≡ noise_words text) × SaysScript 16 items text
CarryText words (Echo pairs) =
    (text : List ℕ) × (words ≡ echo_words text) × SaysPairs pairs text
CarryText words request = Unit {0}

-- the words ask for a request: they say its command, and carry its text
pub record AskFor (words : List (List ℕ)) (request : Request) : Type 0 where
  pub said : Say words (command_of request)
  pub carried : CarryText words request

-- the words ask for nothing
abbrev pub AskForNothing : List (List ℕ) → Type 0
AskForNothing words = (request : Request) → ¬ AskFor words request

-- what words that ask for nothing are refused for: the words, where they say no command; and a text
-- behind `noise` that is no script, or one behind `echo` that is none of taps, at the place where it is
-- bad
pub data AreRefusedFor (words : List (List ℕ)) (refused : Refusal) : Type 0 where
  for_words : SayNothing words → refused ≡ Words → AreRefusedFor words refused
  for_script : (text : List ℕ) → words ≡ noise_words text → (at : ℕ) → IsBadAt (IsScript 16) text at
      → refused ≡ BadScript at → AreRefusedFor words refused
  for_taps : (text : List ℕ) → words ≡ echo_words text → (at : ℕ) → IsBadAt IsTapText text at
      → refused ≡ BadTaps at → AreRefusedFor words refused
