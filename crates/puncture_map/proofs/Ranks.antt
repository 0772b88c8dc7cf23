-- The rank of a place: how many kept places stand before it.
use Rattle.std.proofs.Common.{◌≡◌, ℕ, ◌+◌, ◌-◌, ◌*◌, ◌<◌, ◌≤◌, zero, suc, Bool, true, false, cond, [], ◌∷◌, ◌++◌, length, refl, sym, ap, ◌∙◌, arith}
use Rattle.std.specs.List.{filter, range_with_len}
use Rattle.std.proofs.lemmas.List.{map-id, length-append}
use Rattle.std.proofs.lemmas.List.FromFn.{filter_of_map_range_with_len_more}
use Rattle.rate_table.specs.declared.CodeRate.{CodeRate}
use Rattle.puncture_map.specs.Kept.{is_kept, kept_places, kept_count, rank}

-- one place more
pub kept_places-more : (rate : CodeRate) (n : ℕ) → kept_places rate (n + 1) ≡ kept_places rate n ++ cond (is_kept rate n) (n ∷ []) []
kept_places-more rate n =
    ap (filter (is_kept rate)) (sym (map-id (range_with_len 0 (n + 1))))
    ∙ filter_of_map_range_with_len_more (is_kept rate) (λ k. k) 0 n n (omega arith)
    ∙ ap (λ places. filter (is_kept rate) places ++ cond (is_kept rate n) (n ∷ []) []) (map-id (range_with_len 0 n))

length-cond : (b : Bool) (n : ℕ) → length (cond b (n ∷ []) []) ≡ cond b 1 0
length-cond true n = refl
length-cond false n = refl

-- the rank of the next place
pub rank-more : (rate : CodeRate) (n : ℕ) → rank rate (n + 1) ≡ rank rate n + cond (is_kept rate n) 1 0
rank-more rate n =
    ap length (kept_places-more rate n)
    ∙ length-append (kept_places rate n) (cond (is_kept rate n) (n ∷ []) [])
    ∙ ap (λ m. rank rate n + m) (length-cond (is_kept rate n) n)

-- ranks rise
pub rank-rises : (rate : CodeRate) (place more : ℕ) → rank rate place ≤ rank rate (place + more)
rank-rises rate place zero = let same : place + zero ≡ place = omega arith in rw same (omega arith)
rank-rises rate place (suc more) =
    let next : place + suc more ≡ place + more + 1 = omega arith in
    rw next (omega (arith, rank-rises rate place more, rank-more rate (place + more)))

-- a kept place below so many steps has a rank below their count
pub rank-below : (rate : CodeRate) (place steps : ℕ) → place < 2 * steps → is_kept rate place ≡ true → rank rate place < kept_count rate steps
rank-below rate place steps within kept =
    let whole : place + 1 + (2 * steps - (place + 1)) ≡ 2 * steps = omega arith in
    let up_to = rw whole at (rank-rises rate (place + 1) (2 * steps - (place + 1))) in
    let more : rank rate (place + 1) ≡ rank rate place + 1 = rank-more rate place ∙ ap (λ b. rank rate place + cond b 1 0) kept in
    omega arith

-- more steps have no fewer kept places
pub kept_count-rises : (rate : CodeRate) (fewer steps : ℕ) → fewer ≤ steps → kept_count rate fewer ≤ kept_count rate steps
kept_count-rises rate fewer steps few =
    let whole : 2 * fewer + (2 * steps - 2 * fewer) ≡ 2 * steps = omega arith in
    rw whole at (rank-rises rate (2 * fewer) (2 * steps - 2 * fewer))
