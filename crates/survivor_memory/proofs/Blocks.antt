-- Steps in a row: the entries are lowered once, so far that they stay below 255.
use Rattle.std.proofs.Common.{◌≡◌, ℕ, ◌+◌, ◌-◌, ◌*◌, ◌/◌, ◌%◌, ◌<◌, ◌≤◌, List, [], ◌∷◌, ◌++◌, length, get_or, min, take, set, ap, refl, ◌∙◌, ◌⊎◌, inl, inr, arith}
use Rattle.std.proofs.lemmas.Bool.{cases_lt}
use Rattle.std.proofs.lemmas.Grind.{take-set_at}
use Rattle.std.proofs.lemmas.List.{length-set, take_more_set}
use Rattle.survivor_memory.specs.declared.PairCosts.{PairCosts}
use Rattle.survivor_memory.specs.declared.BranchCosts.{BranchCosts}
use Rattle.survivor_memory.specs.Costs.{AreBranchCosts, most_cost}
use Rattle.survivor_memory.specs.Survivors.{AreLowered, AreNextEntries, HasEntryAtMost, Holds, MemoryView, through_lower, through_higher}
use Rattle.survivor_memory.proofs.Holding.{entry_le}
use Rattle.survivor_memory.proofs.Leading.{branch_cost_is, branch_cost_le, leads_lt}
use Rattle.survivor_memory.proofs.Stepping.{holds_push, holds_push_lowered}

-- a memory that holds pairs, with some entry at most so much
abbrev pub HoldsLow : ℕ → ℕ → List ℕ → ℕ → List ℕ → ℕ → List PairCosts → Type 0
HoldsLow most bound entries base rows room pairs =
    Holds most (record { entries = entries; base = base; rows = rows; room = room }) pairs × HasEntryAtMost bound entries

-- what is taken off the entries goes to the base
pub holds_lowered : (most limit by : ℕ) (entries lowered rows : List ℕ) (base room : ℕ) (pairs : List PairCosts) → 7 * most < 255
    → Holds most (record { entries = entries; base = base; rows = rows; room = room }) pairs → AreLowered entries by lowered
    → HasEntryAtMost limit entries ⊎ ((s : ℕ) × (s < 64) × (get_or entries s 0 ≡ by)) → limit ≤ 254 - 7 * most
    → HoldsLow most limit lowered (base + by) rows room pairs
holds_lowered most limit by entries lowered rows base room pairs few holds off low_at small =
    let old : MemoryView = record { entries = entries; base = base; rows = rows; room = room } in
    let (least, below, least_is) = holds.low in
    let is_low : HasEntryAtMost limit lowered = elim low_at [
      | inl some ↦
          let (s, h, at) = some in
          (s, h, omega (arith, off.less s h (omega arith), at))
      | inr found ↦
          let (s, h, at) = found in
          (s, h, omega (arith, off.less s h (omega (arith, at, off.within least below, least_is)), at))
    ] in
    let (low, low_below, low_is) = is_low in (
      record {
        held = holds.held;
        light = holds.light;
        survivors = λ state u leads.
            let within : state < 64 = leads_lt leads in
            let entry = entry_le most old pairs few holds state u within leads in
            let same : get_or lowered state 0 + (base + by) ≡ get_or entries state 0 + base =
            omega (arith, off.less state within (omega (arith, entry)), off.within state within) in
            rw same (holds.survivors state u leads);
        no_list = λ state within none. off.kept state within (holds.no_list state within none);
        low = (low, low_below, omega (arith, low_is, small));
      },
      is_low,
    )

-- one pair on, where some entry stays so low that nothing is to be taken off
pub holds_next : (most bound : ℕ) (entries next rows : List ℕ) (base room row : ℕ) (costs : BranchCosts) (pair : PairCosts) (pairs : List PairCosts)
    → bound + 8 * most ≤ 254 → AreBranchCosts pair costs → most_cost pair ≤ most → AreNextEntries entries costs.lower costs.higher next row
    → HoldsLow most bound entries base rows room pairs
    → HoldsLow most (bound + most) next base (rows ++ row ∷ []) room (pairs ++ pair ∷ [])
holds_next most bound entries next rows base room row costs pair pairs small branches light is low =
    let (holds, (at, below, at_most)) = low in
    let is_low : HasEntryAtMost (bound + most) next = elim (cases_lt at 32) [
      | inl lower ↦ (2 * at, omega arith, omega (arith, is.least (2 * at) (omega arith), through_low (2 * at) (omega arith) at (omega arith)))
      | inr higher ↦ (2 * (at - 32), omega arith, omega (arith, is.least (2 * (at - 32)) (omega arith), through_high (2 * (at - 32)) (omega arith) at (omega arith)))
    ] in
    let (s, s_below, s_low) = is_low in (
      holds_push most pair _ _ pairs
          (record {
            low = through_lower entries costs.lower;
            high = through_higher entries costs.higher;
            row = row;
            least = 0;
            low_is = λ s h. rw (branches.lower s h, ← branch_cost_is pair (s / 2) (s % 2));
            high_is = λ s h. rw (branches.higher s h, ← branch_cost_is pair (s / 2 + 32) (s % 2));
            low_wins = is.lower;
            high_wins = is.higher;
            least_le = λ s h. omega arith;
            lowered = λ s h less. omega (arith, is.least s h);
            kept = λ s h full. is.least s h ∙ full;
            rows = refl;
            base = omega arith;
          })
          (omega arith)
          light
          holds
          (s, s_below, omega (arith, s_low, small)),
      is_low,
    )
  where
    branch_lower_le : (s : ℕ) → s < 64 → get_or costs.lower s 0 ≤ most
    branch_lower_le s h = omega (arith, branches.lower s h, branch_cost_is pair (s / 2) (s % 2), branch_cost_le pair (s / 2) (s % 2), light)

    branch_higher_le : (s : ℕ) → s < 64 → get_or costs.higher s 0 ≤ most
    branch_higher_le s h = omega (arith, branches.higher s h, branch_cost_is pair (s / 2 + 32) (s % 2), branch_cost_le pair (s / 2 + 32) (s % 2), light)

    through_low : (s : ℕ) → s < 64 → (t : ℕ) → s / 2 ≡ t → through_lower entries costs.lower s ≤ get_or entries t 0 + most
    through_low s h t e = rw e (omega (arith, branch_lower_le s h))

    through_high : (s : ℕ) → s < 64 → (t : ℕ) → s / 2 + 32 ≡ t → through_higher entries costs.higher s ≤ get_or entries t 0 + most
    through_high s h t e = rw e (omega (arith, branch_higher_le s h))

-- one pair on, where something is taken off
pub holds_next_lowered : (most by : ℕ) (entries next lowered rows : List ℕ) (base room row : ℕ) (costs : BranchCosts) (pair : PairCosts) (pairs : List PairCosts) → 7 * most < 255
    → AreBranchCosts pair costs → most_cost pair ≤ most → AreNextEntries entries costs.lower costs.higher next row → AreLowered next by lowered
    → HasEntryAtMost (254 - 7 * most) next ⊎ ((s : ℕ) × (s < 64) × (get_or next s 0 ≡ by))
    → Holds most (record { entries = entries; base = base; rows = rows; room = room }) pairs
    → Holds most (record { entries = lowered; base = base + by; rows = rows ++ row ∷ []; room = room }) (pairs ++ pair ∷ [])
holds_next_lowered most by entries next lowered rows base room row costs pair pairs few branches light is off low_at holds =
    let low = through_lower entries costs.lower in
    let high = through_higher entries costs.higher in
    let at_or_least : ((s : ℕ) × (s < 64) × (min (low s) (high s) ≤ 254 - 7 * most)) ⊎ ((s : ℕ) × (s < 64) × (min (low s) (high s) ≡ by)) = elim low_at [
      | inl some ↦ let (s, h, at) = some in inl (s, h, rw (is.least s h) at at)
      | inr found ↦ let (s, h, at) = found in inr (s, h, rw (is.least s h) at at)
    ] in
    holds_push_lowered most pair _ _ pairs
    (record {
      low = low;
      high = high;
      row = row;
      least = by;
      low_is = λ s h. rw (branches.lower s h, ← branch_cost_is pair (s / 2) (s % 2));
      high_is = λ s h. rw (branches.higher s h, ← branch_cost_is pair (s / 2 + 32) (s % 2));
      low_wins = is.lower;
      high_wins = is.higher;
      least_le = λ s h. rw (is.least s h) at (off.within s h);
      lowered = λ s h. rw (is.least s h) at (off.less s h);
      kept = λ s h. rw (is.least s h) at (off.kept s h);
      rows = refl;
      base = refl;
    })
    few
    light
    holds
    at_or_least

-- nothing taken off
pub none_off : (entries : List ℕ) → AreLowered entries 0 entries
none_off entries = record {
  within = λ s h. omega arith;
  less = λ s h below. omega arith;
  kept = λ s h full. full;
}

-- the same, written in another way
pub holds_as : (most : ℕ) (entries rows others : List ℕ) (base sum room : ℕ) (pairs more : List PairCosts) → others ≡ rows → sum ≡ base → pairs ≡ more
    → Holds most (record { entries = entries; base = base; rows = rows; room = room }) pairs
    → Holds most (record { entries = entries; base = sum; rows = others; room = room }) more
holds_as most entries rows others base sum room pairs more same_rows same_base same_pairs holds = rw (same_rows, same_base, ← same_pairs) holds

-- two rows more
pub two_rows : (rows : List ℕ) (held first second : ℕ) → held + 2 ≤ length rows
    → take (held + 2) (set (set rows held first) (held + 1) second) ≡ (take held rows ++ first ∷ []) ++ second ∷ []
two_rows rows held first second within =
    take-set_at (set rows held first) (held + 1) (held + 2) second (omega arith) (omega (arith, length-set rows held first))
    ∙ ap (λ front. front ++ second ∷ []) (take_more_set rows held first (omega arith))

-- and three
pub three_rows : (rows : List ℕ) (held first second third : ℕ) → held + 3 ≤ length rows
    → take (held + 3) (set (set (set rows held first) (held + 1) second) (held + 2) third) ≡ ((take held rows ++ first ∷ []) ++ second ∷ []) ++ third ∷ []
three_rows rows held first second third within =
    let before = set (set rows held first) (held + 1) second in
    let long : length before ≡ length rows = length-set (set rows held first) (held + 1) second ∙ length-set rows held first in
    take-set_at before (held + 2) (held + 3) third (omega arith) (omega (arith, long))
    ∙ ap (λ front. front ++ third ∷ []) (two_rows rows held first second (omega arith))
