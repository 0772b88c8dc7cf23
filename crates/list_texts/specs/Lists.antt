-- Lists of frames, and their texts (own).
use Rattle.std.specs.Prelude.{ℕ, ◌≤◌, ◌≡◌, List, [], ◌∷◌, ◌++◌, length, All}
use Rattle.std.specs.Fmt.{decimal}
use Rattle.std.specs.List.{flat_map}
use Rattle.bit_lists.specs.Bits.{AreOctets}
use Rattle.hex.specs.Hex.{encode_lower}
use Rattle.list_texts.specs.declared.Entry.{Entry}
use Rattle.ofdm_scrambler.specs.Sequence.{IsSeed}
use Rattle.rate_table.specs.Symbols.{IsLength}
use Rattle.rate_table.specs.Table.{row_of}

-- the numbers and the octets of an entry are in their ranges
pub record IsInRange (entry : Entry) : Type 0 where
  pub seed : IsSeed entry.seed
  pub least_gap : 16 ≤ entry.gap
  pub most_gap : entry.gap ≤ 1048576
  pub long : IsLength (length entry.psdu)
  pub octets : AreOctets entry.psdu

-- the text of an entry: its rate in megabits a second, its seed, its gap, and its PSDU in lower-case hexadecimal, with
-- one space between two
abbrev pub line_text : Entry → List ℕ
line_text entry =
    decimal (row_of entry.rate).mbps
    ++ 32 ∷ (decimal entry.seed ++ 32 ∷ (decimal entry.gap ++ 32 ∷ encode_lower entry.psdu))

-- the text of a list: the line of each entry, and a newline behind it
abbrev pub list_text : List Entry → List ℕ
list_text entries = flat_map (λ (entry : Entry). line_text entry ++ 10 ∷ []) entries

-- a text is the entry's, which is in its ranges
pub record SaysLine (entry : Entry) (text : List ℕ) : Type 0 where
  pub in_range : IsInRange entry
  pub is : text ≡ line_text entry

-- a text is some entry's
abbrev pub IsLine : List ℕ → Type 0
IsLine text = (entry : Entry) × SaysLine entry text

-- a text is the list's, which has at least one entry
pub record SaysList (entries : List Entry) (text : List ℕ) : Type 0 where
  pub some : 1 ≤ length entries
  pub in_range : All IsInRange entries
  pub is : text ≡ list_text entries

-- a text is some list's
abbrev pub IsList : List ℕ → Type 0
IsList text = (entries : List Entry) × SaysList entries text
