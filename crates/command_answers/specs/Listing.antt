-- What `send-list` comes to (own).
use Rattle.std.specs.Prelude.{ℕ, ◌≡◌, ◌<◌, ◌≤◌, List, length}
use Rattle.capture_files.specs.Captures.{bytes_of_samples}
use Rattle.list_texts.specs.Lists.{IsList, SaysList}
use Rattle.list_texts.specs.declared.Entry.{Entry}
use Rattle.report_lines.specs.declared.Refusal.TheVariants.{BadList, LongList}
use Rattle.send_lists.specs.Sent.{most_samples, samples_of_list}
use Rattle.word_grammar.specs.Places.{IsBadAt}
use Rattle.modem_ports.specs.Limits.{most_input}
use Rattle.command_words.specs.declared.Command.TheVariants.{Receive, SendList}
use Rattle.command_words.specs.Grammar.{Say}
use Rattle.command_answers.specs.InOrder.{Outcome, Unless, UnlessSome, With, Writes}

-- the bytes of a list: those of its samples
abbrev pub bytes_of_list : List Entry → List ℕ
bytes_of_list entries = bytes_of_samples (samples_of_list entries)

-- the outcome of a list: it has too many samples; else the bytes of its samples are written
abbrev pub OfEntries : List Entry → Outcome → Type 0
OfEntries entries =
    let count = length (samples_of_list entries) in
    Unless (most_samples < count) (LongList count) (λ outcome. outcome ≡ Writes (bytes_of_list entries))

-- the outcome of `send-list`, in the order of its refusals: the text is bad as a list; else that of the list that it says
abbrev pub ListOutcome : List ℕ → Outcome → Type 0
ListOutcome text =
    UnlessSome (IsBadAt IsList text) (λ at. BadList at)
    (With (λ entries. SaysList entries text) OfEntries)

-- words ask to send a list, and others to receive; the text is that list, and neither it nor its samples are too many
pub record IsSentList (words back : List (List ℕ)) (text : List ℕ) (entries : List Entry)
    : Type 0 where
  pub sent : Say words SendList
  pub received : Say back Receive
  pub says : SaysList entries text
  pub short : length text ≤ most_input
  pub few : length (samples_of_list entries) ≤ most_samples
