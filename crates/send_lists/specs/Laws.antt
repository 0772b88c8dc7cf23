-- What the laws of lists that are sent state (own).
use Rattle.std.specs.Prelude.{List}
use Rattle.frame_lists.specs.Near.{AreNear}
use Rattle.list_texts.specs.declared.Entry.{Entry}
use Rattle.send_lists.specs.Sent.{MayBeSent, frames_of_list, samples_of_list}

-- the samples of a list are within 1 of its frames, and silent elsewhere
abbrev pub SentListsAreNear : Type 0
SentListsAreNear =
    (entries : List Entry) → MayBeSent entries
    → AreNear (λ _. 1) 0 (samples_of_list entries) (frames_of_list entries)
