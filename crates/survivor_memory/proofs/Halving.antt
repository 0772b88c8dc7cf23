-- The least of lanes, by halves.
use Rattle.std.proofs.Common.{◌≡◌, ℕ, ◌+◌, ◌-◌, ◌*◌, ◌<◌, ◌≤◌, List, ◌++◌, length, get_or, min, ◌∙◌, inl, inr, arith}
use lib.Lanes.{pick_l}
use Rattle.std.specs.List.{range_with_len}
use Rattle.std.proofs.lemmas.Bool.{cases_lt}
use Rattle.std.proofs.lemmas.List.{get_or-map, get_or_append_left, length-append}
use Rattle.std.proofs.lemmas.List.FromFn.{get_or-range_with_len, length-range_with_len}

-- a number is the least of the first lanes
pub record IsLeastOf (count : ℕ) (lanes : List ℕ) (least : ℕ) : Type 0 where
  pub below : (s : ℕ) → s < count → least ≤ get_or lanes s 0
  pub found : (s : ℕ) × (s < count) × (get_or lanes s 0 ≡ least)

-- the places of lanes that are turned
abbrev turned_places : ℕ → List ℕ
turned_places by = range_with_len by (64 - by) ++ range_with_len 0 by

-- a lane of them
turned_lane : (lanes : List ℕ) (by s : ℕ) → length lanes ≡ 64 → by ≤ 32 → s < by → get_or (pick_l 0 (lanes ++ lanes) (turned_places by)) s 0 ≡ get_or lanes (by + s) 0
turned_lane lanes by s long small h =
    let front = range_with_len by (64 - by) in
    let many : length (turned_places by) ≡ 64 = omega (arith, length-append front (range_with_len 0 by), length-range_with_len by (64 - by), length-range_with_len 0 by) in
    let place : get_or (turned_places by) s 0 ≡ by + s =
    get_or_append_left front (range_with_len 0 by) 0 s (omega (arith, length-range_with_len by (64 - by))) ∙ get_or-range_with_len by (64 - by) s 0 (omega arith) in
    get_or-map (λ k. get_or (lanes ++ lanes) k 0) (turned_places by) s 0 0 (omega arith)
    ∙ rw place (get_or_append_left lanes lanes 0 (by + s) (omega arith))

-- the least of a half is that of the whole, where each of its lanes is the lesser of two
pub least_of_both : (half : ℕ) (lanes halves : List ℕ) (least : ℕ) → half ≤ 32 → length lanes ≡ 64
    → ((s : ℕ) → s < 64 → get_or halves s 0 ≡ min (get_or lanes s 0) (get_or (pick_l 0 (lanes ++ lanes) (turned_places half)) s 0))
    → IsLeastOf half halves least → IsLeastOf (2 * half) lanes least
least_of_both half lanes halves least small long lesser is =
    let each : (s : ℕ) → s < half → get_or halves s 0 ≡ min (get_or lanes s 0) (get_or lanes (half + s) 0) =
    λ s h. lesser s (omega arith) ∙ rw (turned_lane lanes half s long small h) in
    let upper : (s : ℕ) → s < half → least ≤ get_or lanes (half + s) 0 = λ s h. omega (arith, each s h, is.below s h) in
    record {
      below = λ s h. elim (cases_lt s half) [
        | inl low ↦ omega (arith, each s low, is.below s low)
        | inr high ↦ let place : half + (s - half) ≡ s = omega arith in rw place at (upper (s - half) (omega arith))
      ];
      found =
          let (s, h, at) = is.found in
          elim (cases_lt (get_or lanes s 0) (get_or lanes (half + s) 0)) [
            | inl low ↦ (s, omega arith, omega (arith, each s h, at, low))
            | inr high ↦ (half + s, omega arith, omega (arith, each s h, at, high))
          ];
    }
