-- Lists that are read line by line (own).
use Rattle.std.specs.Prelude.{ℕ, ◌+◌, ◌≤◌, ◌≡◌, List, [], ◌∷◌, ◌++◌, length, drop}
use Rattle.list_texts.specs.Lists.{IsInRange, SaysList, line_text}
use Rattle.list_texts.specs.declared.Entry.{Entry}
use Rattle.send_lists.specs.Sent.{most_samples, samples_of_list}

-- a text begins with the line of an entry, which has so many bytes with its newline. Its samples are counted, and it is
-- kept where they are not too many with those before
pub record AddsLine (text : List ℕ) (len : ℕ) (before : List Entry) (count : ℕ) (after : List Entry) (more : ℕ)
    : Type 0 where
  pub entry : Entry
  pub in_range : IsInRange entry
  pub len_is : len ≡ length (line_text entry) + 1
  pub whole : text ≡ line_text entry ++ 10 ∷ drop len text
  pub counted : more ≡ count + length (samples_of_list (entry ∷ []))
  pub at_most : more ≤ count + 2097152
  pub kept : more ≤ most_samples → after ≡ before ++ entry ∷ []

-- a text is read whole: it is a list of so many samples, whose entries are kept where they are not too many
pub record AreRead (text : List ℕ) (kept : List Entry) (count : ℕ) : Type 0 where
  pub entries : List Entry
  pub says : SaysList entries text
  pub counted : count ≡ length (samples_of_list entries)
  pub kept_are : count ≤ most_samples → kept ≡ entries
