-- The items of noise scripts, and their texts (own).
use Rattle.std.specs.Prelude.{ℕ, ◌^◌, ◌<◌, ◌≤◌, ◌≡◌, List, ◌∷◌, ◌++◌, codes, FitsSigned}
use Rattle.std.specs.Fmt.{decimal, signed_decimal}
use Rattle.std.specs.Int.{w16}
use Rattle.noise_script.specs.declared.Item.{Item}
use Rattle.noise_script.specs.declared.Item.TheVariants.{Lead, Trail, Uniform, Spike, Cut}

-- the numbers of an item are in their ranges
abbrev pub IsInRange : Item → Type 0
IsInRange (Lead count) = count ≤ 1048576
IsInRange (Trail count) = count ≤ 1048576
IsInRange (Uniform bound seed) = (bound ≤ 32767) × (seed < 2 ^ 64)
IsInRange (Spike at i q) = (at ≤ 33554432) × FitsSigned w16 i × FitsSigned w16 q
IsInRange (Cut at count) = (at ≤ 33554432) × (count ≤ 33554432)

-- the text of an item: its key and its numbers, with one space before each number
abbrev pub item_text : Item → List ℕ
item_text (Lead count) = codes "lead" ++ 32 ∷ decimal count
item_text (Trail count) = codes "trail" ++ 32 ∷ decimal count
item_text (Uniform bound seed) = codes "uniform" ++ 32 ∷ (decimal bound ++ 32 ∷ decimal seed)
item_text (Spike at i q) =
    codes "spike" ++ 32 ∷ (decimal at ++ 32 ∷ (signed_decimal i ++ 32 ∷ signed_decimal q))
item_text (Cut at count) = codes "cut" ++ 32 ∷ (decimal at ++ 32 ∷ decimal count)

-- a text is the item's, whose numbers are in their ranges
pub record SaysItem (item : Item) (text : List ℕ) : Type 0 where
  pub in_range : IsInRange item
  pub is : text ≡ item_text item

-- a text is some item's
abbrev pub IsItem : List ℕ → Type 0
IsItem text = (item : Item) × SaysItem item text
