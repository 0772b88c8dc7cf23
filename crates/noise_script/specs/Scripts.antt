-- Noise scripts, and their texts (own).
use Rattle.std.specs.Prelude.{ℕ, ◌≤◌, ◌≡◌, List, [], ◌∷◌, ◌++◌, length, codes, All}
use Rattle.std.specs.Fmt.{decimal}
use Rattle.noise_script.specs.Items.{IsInRange, item_text}
use Rattle.noise_script.specs.declared.Item.{Item}
use Rattle.noise_script.specs.declared.ScriptFault.{ScriptFault}
use Rattle.noise_script.specs.declared.ScriptFault.TheVariants.{BadScript}

-- the text of items: that of each, with a semicolon and a space between two
abbrev pub script_text : List Item → List ℕ
script_text [] = []
script_text (item ∷ []) = item_text item
script_text (item ∷ next ∷ items) = item_text item ++ 59 ∷ 32 ∷ script_text (next ∷ items)

-- a text is the items', which are in range: at least one, and at most so many
pub record SaysScript (most : ℕ) (items : List Item) (text : List ℕ) : Type 0 where
  pub some : 1 ≤ length items
  pub few : length items ≤ most
  pub in_range : All IsInRange items
  pub is : text ≡ script_text items

-- a text is that of some items, at most so many
abbrev pub IsScript : ℕ → List ℕ → Type 0
IsScript most text = (items : List Item) × SaysScript most items text

-- the place of a text that is no script
abbrev pub place_of : ScriptFault → ℕ
place_of (BadScript at) = at

-- lead LEAD; uniform BOUND SEED; trail TRAIL
abbrev pub frame_text : ℕ → ℕ → ℕ → ℕ → List ℕ
frame_text lead bound seed trail =
    codes "lead " ++ decimal lead ++ codes "; uniform " ++ decimal bound ++ codes " "
    ++ decimal seed ++ codes "; trail " ++ decimal trail
