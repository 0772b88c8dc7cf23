-- What the places of the code carry (own): the kept ones (IEEE Std 802.11-2012, 18.3.5.6) the marks
-- of decisions, in order, and all others the absent mark.
use Rattle.std.specs.Prelude.{ℕ, ◌+◌, ◌*◌, List, map, slice_index, if◌then◌else◌}
use Rattle.std.specs.List.{range_with_len}
use Rattle.rate_table.specs.declared.CodeRate.{CodeRate}
use Rattle.puncture_map.specs.Kept.{is_kept, rank}

-- the mark at a place: a kept place has that of the decision of its rank; behind their end decisions
-- are read as 0, and whoever cites this has enough of them
abbrev pub carried_at : {M : Type 0} → (ℕ → M) → M → CodeRate → List ℕ → ℕ → M
carried_at mark_of absent rate decisions place =
    if is_kept rate place then mark_of (slice_index decisions (rank rate place)) else absent

-- the pair of marks of a step, for A and for B
unfoldable pub carried_pair : {M : Type 0} → (ℕ → M) → M → CodeRate → List ℕ → ℕ → M × M
carried_pair mark_of absent rate decisions step = (
  carried_at mark_of absent rate decisions (2 * step),
  carried_at mark_of absent rate decisions (2 * step + 1),
)

-- the pairs of marks of so many steps
abbrev pub carried_pairs : {M : Type 0} → (ℕ → M) → M → CodeRate → List ℕ → ℕ → List (M × M)
carried_pairs mark_of absent rate decisions steps =
    map (carried_pair mark_of absent rate decisions) (range_with_len 0 steps)
