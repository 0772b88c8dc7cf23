-- The nearest list (own): of the lists of bits that end in six zeros, the first of least cost. It
-- is a minimum over all of them.
use Rattle.std.specs.Prelude.{ℕ, ◌+◌, ◌<◌, ◌≤◌, ◌≡◌, ◌⊎◌, List, length, slice_index}
use Rattle.bit_lists.specs.Bits.{AreBits}
use Rattle.survivor_memory.specs.declared.PairCosts.{PairCosts}
use Rattle.survivor_memory.specs.Costs.{cost}

-- of two lists of one length, the first has 0 and the second has 1 at the last place where they
-- differ
pub record ComesBefore (u v : List ℕ) : Type 0 where
  pub place : ℕ
  pub within : place < length u
  pub zero : slice_index u place ≡ 0
  pub one : slice_index v place ≡ 1
  pub same_behind : (later : ℕ) → place < later → later < length u
      → slice_index u later ≡ slice_index v later

-- a list of one kind has the least measure of all lists of its kind, and of those that have it
-- comes first
pub record IsFirstOfLeast (IsOfKind : List ℕ → Type 0) (measure : List ℕ → ℕ) (u : List ℕ)
    (least : ℕ) : Type 0 where
  pub of_kind : IsOfKind u
  pub costs : measure u ≡ least
  pub none_less : (v : List ℕ) → IsOfKind v → least ≤ measure v
  pub comes_first : (v : List ℕ) → IsOfKind v → measure v ≡ least → (u ≡ v) ⊎ ComesBefore u v

-- a list of so many bits, the last six of which are 0
pub record IsClosed (count : ℕ) (u : List ℕ) : Type 0 where
  pub long : length u ≡ count
  pub bits : AreBits u
  pub tail : (place : ℕ) → place < count → count ≤ place + 6 → slice_index u place ≡ 0

-- the nearest list by a measure, among the lists of so many bits that end in six zeros, and its
-- measure
abbrev pub IsNearestBy : (List ℕ → ℕ) → ℕ → List ℕ → ℕ → Type 0
IsNearestBy measure count u least = IsFirstOfLeast (IsClosed count) measure u least

-- the nearest list to pairs of marks, and its cost
abbrev pub IsNearest : List PairCosts → List ℕ → ℕ → Type 0
IsNearest pairs u least = IsNearestBy (cost pairs) (length pairs) u least
