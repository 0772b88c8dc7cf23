-- What a survivor memory stands for (own). States are those of the code: bit j, 0 to 5, is the
-- input j + 1 steps ago.
use Rattle.std.specs.Prelude.{ℕ, zero, suc, ◌+◌, ◌-◌, ◌*◌, ◌/◌, ◌%◌, ◌<◌, ◌≤◌, ◌≡◌, List, [], ◌∷◌, ◌++◌, All, length, min, slice_index}
use Rattle.std.specs.Int.{bit_at}
use Rattle.bit_lists.specs.Bits.{AreBits}
use Rattle.conv_code.specs.States.{state_before}
use Rattle.survivor_memory.specs.declared.PairCosts.{PairCosts}
use Rattle.survivor_memory.specs.Costs.{CostAtMost, cost}
use Rattle.survivor_memory.specs.Nearest.{IsFirstOfLeast}

-- what a memory shows: an entry for each state, the base of all entries, the back bits of each pair
-- held, the first pair's first, as a number whose bit s is that of state s, and how many pairs
-- there is room for
pub record MemoryView : Type 0 where
  pub entries : List ℕ
  pub base : ℕ
  pub rows : List ℕ
  pub room : ℕ

-- the list that back bits give, followed from a state after so many steps: the state's lowest bit
-- is the last input, and the back bit is the input that the step pushed out, six steps before
unfoldable pub followed : List ℕ → ℕ → ℕ → List ℕ
followed rows zero state = []
followed rows (suc steps) state =
    followed rows steps (state / 2 + 32 * bit_at (slice_index rows steps) state) ++ state % 2 ∷ []

-- a list of so many bits that leads to a state
pub record LeadsTo (count state : ℕ) (u : List ℕ) : Type 0 where
  pub long : length u ≡ count
  pub bits : AreBits u
  pub ends : state_before u count ≡ state

-- some entry is at most this much
abbrev pub HasEntryAtMost : ℕ → List ℕ → Type 0
HasEntryAtMost bound entries = (s : ℕ) × (s < 64) × (slice_index entries s ≤ bound)

-- a memory stands for a list of pairs, of which none costs more than so much
pub record Holds (most : ℕ) (memory : MemoryView) (pairs : List PairCosts) : Type 0 where
  pub held : length memory.rows ≡ length pairs
  pub light : CostAtMost most pairs
  -- a state that some list leads to: its entry and the base are the least cost of those lists, and
  -- its back bits give the first of those of that cost
  pub survivors : (state : ℕ) (u : List ℕ) → LeadsTo (length pairs) state u
      → IsFirstOfLeast (LeadsTo (length pairs) state) (cost pairs)
      (followed memory.rows (length pairs) state)
      (slice_index memory.entries state + memory.base)
  -- any other state
  pub no_list : (state : ℕ) → state < 64 → ((u : List ℕ) → ¬ LeadsTo (length pairs) state u)
      → slice_index memory.entries state ≡ 255
  -- seven pairs more could not bring the least entry to 255
  pub low : HasEntryAtMost (254 - 7 * most) memory.entries

-- every entry is at most 255
abbrev pub AreEntries : List ℕ → Type 0
AreEntries entries = All (λ entry. entry ≤ 255) entries

-- the entries of any two states differ by at most this much
abbrev pub DifferByAtMost : ℕ → List ℕ → Type 0
DifferByAtMost bound entries =
    (s t : ℕ) → s < 64 → t < 64 → slice_index entries s ≤ slice_index entries t + bound

-- entries with as much taken off each but 255, and none is below it
pub record AreLowered (entries : List ℕ) (by : ℕ) (lowered : List ℕ) : Type 0 where
  pub within : (s : ℕ) → s < 64 → by ≤ slice_index entries s
  pub less : (s : ℕ) → s < 64 → slice_index entries s < 255
      → slice_index lowered s ≡ slice_index entries s - by
  pub kept : (s : ℕ) → s < 64 → slice_index entries s ≡ 255 → slice_index lowered s ≡ 255

-- what leads to a state through its lower and through its higher predecessor, by their entries and
-- by the costs of the branches, is their sum, held at 255
abbrev pub through_lower : List ℕ → List ℕ → ℕ → ℕ
through_lower entries costs s = min 255 (slice_index entries (s / 2) + slice_index costs s)

abbrev pub through_higher : List ℕ → List ℕ → ℕ → ℕ
through_higher entries costs s = min 255 (slice_index entries (s / 2 + 32) + slice_index costs s)

-- the entries one pair on: of what leads to a state the lesser; and back bits, which are 1 where
-- that through the higher predecessor is less
pub record AreNextEntries (entries from_lower from_higher next : List ℕ) (row : ℕ) : Type 0 where
  pub least : (s : ℕ) → s < 64 → slice_index next s
      ≡ min (through_lower entries from_lower s) (through_higher entries from_higher s)
  pub lower : (s : ℕ) → s < 64
      → through_lower entries from_lower s ≤ through_higher entries from_higher s
      → bit_at row s ≡ 0
  pub higher : (s : ℕ) → s < 64
      → through_higher entries from_higher s < through_lower entries from_lower s
      → bit_at row s ≡ 1
