-- The marks that the places of the code carry.
use Rattle.std.proofs.Common.{◌≡◌, ℕ, ◌+◌, ◌*◌, ◌<◌, List, [], ◌∷◌, ◌++◌, Bool, true, false, get_or, take, refl, ◌∙◌, arith}
use Rattle.std.specs.Prelude.{if◌then◌else◌}
use Rattle.std.proofs.lemmas.List.{get_or-take}
use Rattle.std.proofs.lemmas.List.FromFn.{map-range_with_len_more}
use Rattle.bit_lists.proofs.ByPlace.{map-agree}
use Rattle.rate_table.specs.declared.CodeRate.{CodeRate}
use Rattle.puncture_map.specs.Kept.{is_kept, kept_count, rank}
use Rattle.puncture_map.specs.Carried.{carried_at, carried_pair, carried_pairs}
use Rattle.puncture_map.proofs.Ranks.{rank-below}

-- the mark of a place, by whether it is kept, and its rank
pub carried_is : {M : Type 0} (mark_of : ℕ → M) (absent : M) (rate : CodeRate) (decisions : List ℕ) (place next : ℕ) (kept : Bool) (mark : M) → kept ≡ is_kept rate place → next ≡ rank rate place
    → mark ≡ (if kept then mark_of (get_or decisions next 0) else absent) → mark ≡ carried_at mark_of absent rate decisions place
carried_is mark_of absent rate decisions place next kept mark is at made = made ∙ rw (is, at)

-- a mark depends on its decision only where its place is kept
same_mark : {M : Type 0} (mark_of : ℕ → M) (absent : M) (kept : Bool) (d e : ℕ) → (kept ≡ true → d ≡ e) → (if kept then mark_of d else absent) ≡ (if kept then mark_of e else absent)
same_mark mark_of absent true d e same = rw (same refl)
same_mark mark_of absent false d e same = refl

module _ {M : Type 0} (mark_of : ℕ → M) (absent : M) (rate : CodeRate) (decisions : List ℕ)
  where
    -- the pairs are made step by step
    pub carried_pairs-more : (steps : ℕ) → carried_pairs mark_of absent rate decisions (steps + 1) ≡ carried_pairs mark_of absent rate decisions steps ++ carried_pair mark_of absent rate decisions steps ∷ []
    carried_pairs-more steps = map-range_with_len_more (carried_pair mark_of absent rate decisions) 0 steps steps (omega arith)

    carried_at-take : (steps place : ℕ) → place < 2 * steps → carried_at mark_of absent rate (take (kept_count rate steps) decisions) place ≡ carried_at mark_of absent rate decisions place
    carried_at-take steps place within =
        same_mark mark_of absent (is_kept rate place) (get_or (take (kept_count rate steps) decisions) (rank rate place) 0) (get_or decisions (rank rate place) 0)
        (λ kept. get_or-take (kept_count rate steps) decisions (rank rate place) 0 (rank-below rate place steps within kept))

    carried_pair-take : (steps step : ℕ) → step < steps → carried_pair mark_of absent rate (take (kept_count rate steps) decisions) step ≡ carried_pair mark_of absent rate decisions step
    unfolding carried_pair
    carried_pair-take steps step within =
        rw (carried_at-take steps (2 * step) (omega arith), carried_at-take steps (2 * step + 1) (omega arith))

    -- decisions behind those that the steps carry play no part
    pub carried_pairs-take : (steps : ℕ) → carried_pairs mark_of absent rate (take (kept_count rate steps) decisions) steps ≡ carried_pairs mark_of absent rate decisions steps
    carried_pairs-take steps =
        map-agree (carried_pair mark_of absent rate (take (kept_count rate steps) decisions)) (carried_pair mark_of absent rate decisions) steps
        (carried_pair-take steps)
