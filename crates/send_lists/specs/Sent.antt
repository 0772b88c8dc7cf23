-- Lists of frames to be sent, their samples and their frames (own).
use Rattle.std.specs.Prelude.{ℕ, ◌<◌, ◌≤◌, ◌≡◌, List, length, map, All}
use Rattle.fixed_complex.specs.declared.Sample.{Sample}
use Rattle.frame_lists.specs.Items.{Item, frames_from, samples_of_items}
use Rattle.frame_lists.specs.Near.{SentFrame}
use Rattle.list_texts.specs.Lists.{IsInRange, SaysList}
use Rattle.list_texts.specs.declared.Entry.{Entry}

-- a list has at most so many samples
abbrev pub most_samples : ℕ
most_samples = 16777216

-- an entry as the frame that is sent behind its gap
abbrev pub item_of : Entry → Item
item_of entry =
    record { gap = entry.gap; rate = entry.rate; seed = entry.seed; psdu = entry.psdu }

-- the samples of a list: entry after entry its gap, and then the sent samples of its frame
abbrev pub samples_of_list : List Entry → List Sample
samples_of_list entries = samples_of_items (map item_of entries)

-- its frames, each from its start on: the number of samples before it, its own gap included
abbrev pub frames_of_list : List Entry → List SentFrame
frames_of_list entries = frames_from 0 (map item_of entries)

-- a list may be sent: it has an entry, all are in their ranges, and its samples aren't too many
pub record MayBeSent (entries : List Entry) : Type 0 where
  pub some : 1 ≤ length entries
  pub in_range : All IsInRange entries
  pub short : length (samples_of_list entries) ≤ most_samples

-- a text is a list of too many samples, of so many
pub record IsTooLong (text : List ℕ) (samples : ℕ) : Type 0 where
  pub entries : List Entry
  pub says : SaysList entries text
  pub count : samples ≡ length (samples_of_list entries)
  pub over : most_samples < samples
