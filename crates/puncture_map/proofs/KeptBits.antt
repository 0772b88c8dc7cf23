-- The kept bits of a code, place by place.
use Rattle.std.proofs.Common.{◌≡◌, ℕ, ◌+◌, ◌-◌, ◌*◌, ◌%◌, ◌<◌, ◌≤◌, zero, suc, true, false, cond, List, [], ◌∷◌, ◌++◌, length, map, take, drop, slice_index, get_or, refl, sym, ap, inl, inr, ◌∙◌, arith}
use Rattle.std.specs.List.{All, range_with_len}
use Rattle.std.proofs.lemmas.List.{append-nil, append_assoc, get_or-drop, map-append, length-drop, length-map, take_at, get_or-take, get_or_push, length-take-le, take_more}
use Rattle.std.proofs.lemmas.List.Elements.{All-map, All-filter, All-head, All-tail}
use Rattle.std.proofs.lemmas.List.FromFn.{length-range_with_len, get_or-range_with_len}
use Rattle.std.proofs.lemmas.Bool.{cases_Bool}
use Rattle.bit_lists.specs.Bits.{IsBit, AreBits}
use Rattle.bit_lists.proofs.BitFacts.{IsBit-slice_index}
use Rattle.rate_table.specs.declared.CodeRate.{CodeRate}
use Rattle.rate_table.specs.declared.CodeRate.TheVariants.{Half, TwoThirds, ThreeQuarters}
use Rattle.puncture_map.specs.Kept.{is_kept, kept_places, kept_list, period_of, rank}
use Rattle.puncture_map.proofs.Ranks.{kept_places-more, rank-more}

-- the bits at the kept places below a number
abbrev pub kept_bits : CodeRate → List ℕ → ℕ → List ℕ
kept_bits rate code below = map (slice_index code) (kept_places rate below)

kept_bits-append : (rate : CodeRate) (code : List ℕ) (n : ℕ) (more : List ℕ) → kept_places rate (n + 1) ≡ kept_places rate n ++ more → kept_bits rate code (n + 1) ≡ kept_bits rate code n ++ map (slice_index code) more
kept_bits-append rate code n more e = ap (map (slice_index code)) e ∙ map-append (slice_index code) (kept_places rate n) more

pub kept_bits-kept : (rate : CodeRate) (code : List ℕ) (n : ℕ) → is_kept rate n ≡ true → kept_bits rate code (n + 1) ≡ kept_bits rate code n ++ slice_index code n ∷ []
kept_bits-kept rate code n k =
    kept_bits-append rate code n (n ∷ []) (kept_places-more rate n ∙ ap (λ b. kept_places rate n ++ cond b (n ∷ []) []) k)

pub kept_bits-dropped : (rate : CodeRate) (code : List ℕ) (n : ℕ) → is_kept rate n ≡ false → kept_bits rate code (n + 1) ≡ kept_bits rate code n
kept_bits-dropped rate code n k =
    kept_bits-append rate code n [] (kept_places-more rate n ∙ ap (λ b. kept_places rate n ++ cond b (n ∷ []) []) k) ∙ append-nil (kept_bits rate code n)

-- they are bits where the code has bits alone
pub AreBits-kept_bits : (rate : CodeRate) (code : List ℕ) (n : ℕ) → AreBits code → AreBits (kept_bits rate code n)
AreBits-kept_bits rate code n bits =
    All-map IsBit (slice_index code) (kept_places rate n) (λ k d _. IsBit-slice_index code (get_or (kept_places rate n) k d) bits)

-- the places kept below a number are the first of those kept below a larger one
kept_places-add : (rate : CodeRate) (a d : ℕ) → (rest : List ℕ) × (kept_places rate (a + d) ≡ kept_places rate a ++ rest)
kept_places-add rate a zero =
    let same : a + zero ≡ a = omega arith in ([], ap (kept_places rate) same ∙ sym (append-nil (kept_places rate a)))
kept_places-add rate a (suc d) =
    let before = kept_places-add rate a d in
    let more = cond (is_kept rate (a + d)) ((a + d) ∷ []) [] in
    let one_more : a + suc d ≡ (a + d) + 1 = omega arith in (
      before.0 ++ more,
      ap (kept_places rate) one_more
          ∙ kept_places-more rate (a + d)
          ∙ ap (λ places. places ++ more) before.1
          ∙ append_assoc (kept_places rate a) before.0 more,
    )

map-agree : (f g : ℕ → ℕ) (xs : List ℕ) → All (λ x. f x ≡ g x) xs → map f xs ≡ map g xs
map-agree f g [] same = refl
map-agree f g (x ∷ xs) same =
    let here = All-head (λ y. f y ≡ g y) x xs same in
    let rest = map-agree f g xs (All-tail (λ y. f y ≡ g y) x xs same) in
    cc

All-kept_places : (rate : CodeRate) (n : ℕ) → All (λ k. k < n) (kept_places rate n)
All-kept_places rate n =
    All-filter (is_kept rate) (λ k. k < n) (range_with_len 0 n)
    (λ k d below. let in_range : k < n = omega (arith, below, length-range_with_len 0 n) in omega (arith, get_or-range_with_len 0 n k d in_range))

-- the first bits of a code have the same kept bits alone
kept_bits-take : (rate : CodeRate) (code : List ℕ) (n : ℕ) → kept_bits rate (take n code) n ≡ kept_bits rate code n
kept_bits-take rate code n =
    map-agree (slice_index (take n code)) (slice_index code) (kept_places rate n)
    (λ k d below. get_or-take n code (get_or (kept_places rate n) k d) 0 (All-kept_places rate n k d below))

pub kept_list-take : (rate : CodeRate) (code : List ℕ) (n : ℕ) → n ≤ length code → take (length (kept_places rate n)) (kept_list rate code) ≡ kept_list rate (take n code)
kept_list-take rate code n within =
    let all = kept_places-add rate n (length code - n) in
    let whole : length code ≡ n + (length code - n) = omega arith in
    let front = kept_bits rate code n in
    let split =
    ap (kept_bits rate code) whole
    ∙ ap (map (slice_index code)) all.1
    ∙ map-append (slice_index code) (kept_places rate n) all.0
    in
    ap (take (length (kept_places rate n))) split
    ∙ take_at front (map (slice_index code) all.0) (length (kept_places rate n)) (length-map (kept_places rate n) (slice_index code))
    ∙ sym (kept_bits-take rate code n)
    ∙ sym (ap (kept_bits rate (take n code)) (length-take-le n code within))

-- the kept bit with a kept place's rank is the bit at the place
pub kept_list-rank : (rate : CodeRate) (code : List ℕ) (n : ℕ) → n < length code → is_kept rate n ≡ true → slice_index (kept_list rate code) (rank rate n) ≡ slice_index code n
kept_list-rank rate code n within kept =
    let front = take (n + 1) code in
    let front_long : length front ≡ n + 1 = length-take-le (n + 1) code (omega arith) in
    let more : rank rate (n + 1) ≡ rank rate n + 1 = rank-more rate n ∙ ap (λ b. rank rate n + cond b 1 0) kept in
    let bits : kept_list rate front ≡ kept_bits rate front n ++ slice_index front n ∷ [] = ap (kept_bits rate front) front_long ∙ kept_bits-kept rate front n kept in
    let split = kept_list-take rate code (n + 1) (omega arith) ∙ bits in
    sym (get_or-take (rank rate (n + 1)) (kept_list rate code) (rank rate n) 0 (omega arith))
    ∙ ap (λ xs. get_or xs (rank rate n) 0) split
    ∙ get_or_push (kept_bits rate front n) (slice_index front n) 0 (rank rate n) (length-map (kept_places rate n) (slice_index front))
    ∙ get_or-take (n + 1) code n 0 (omega arith)

-- the places behind whole periods are kept as those behind none are
is_kept-behind : (rate : CodeRate) (begun d : ℕ) → begun % (2 * period_of rate) ≡ 0 → is_kept rate (begun + d) ≡ is_kept rate d
is_kept-behind Half begun d whole = refl
is_kept-behind TwoThirds begun d whole = let same : (begun + d) % 4 ≡ d % 4 = omega arith in rw same
is_kept-behind ThreeQuarters begun d whole = let same : (begun + d) % 6 ≡ d % 6 = omega arith in rw same

-- behind whole periods stand the kept bits of the rest
kept_bits-behind : (rate : CodeRate) (code : List ℕ) (begun d : ℕ) → begun % (2 * period_of rate) ≡ 0
    → kept_bits rate code (begun + d) ≡ kept_bits rate code begun ++ kept_bits rate (drop begun code) d
kept_bits-behind rate code begun zero whole = let same : begun + zero ≡ begun = omega arith in ap (kept_bits rate code) same ∙ sym (append-nil (kept_bits rate code begun))
kept_bits-behind rate code begun (suc d) whole =
    let next : begun + suc d ≡ begun + d + 1 = omega arith in
    let one : suc d ≡ d + 1 = omega arith in
    let rest = drop begun code in
    let before = kept_bits-behind rate code begun d whole in
    let same = is_kept-behind rate begun d whole in
    let at : slice_index rest d ≡ slice_index code (begun + d) = get_or-drop begun code d 0 in
    let more : kept_bits rate code (begun + d + 1) ≡ kept_bits rate code begun ++ kept_bits rate rest (d + 1) =
    elim (cases_Bool (is_kept rate d)) [
      | inl kept ↦
          kept_bits-kept rate code (begun + d) (same ∙ kept)
          ∙ ap (λ bits. bits ++ slice_index code (begun + d) ∷ []) before
          ∙ append_assoc (kept_bits rate code begun) (kept_bits rate rest d) (slice_index code (begun + d) ∷ [])
          ∙ ap (λ bit. kept_bits rate code begun ++ (kept_bits rate rest d ++ bit ∷ [])) (sym at)
          ∙ ap (λ bits. kept_bits rate code begun ++ bits) (sym (kept_bits-kept rate rest d kept))
      | inr dropped ↦
          kept_bits-dropped rate code (begun + d) (same ∙ dropped)
          ∙ before
          ∙ ap (λ bits. kept_bits rate code begun ++ bits) (sym (kept_bits-dropped rate rest d dropped))
    ]
    in
    ap (kept_bits rate code) next ∙ more ∙ ap (λ n. kept_bits rate code begun ++ kept_bits rate rest n) (sym one)

-- and so the kept bits of a part of the code that begins behind whole periods
pub kept_bits-part : (rate : CodeRate) (code : List ℕ) (begun behind : ℕ) → begun % (2 * period_of rate) ≡ 0 → begun ≤ behind → behind ≤ length code
    → kept_bits rate code behind ≡ kept_bits rate code begun ++ kept_list rate (take (behind - begun) (drop begun code))
kept_bits-part rate code begun behind whole after within =
    let rest = drop begun code in
    let d = behind - begun in
    let place : behind ≡ begun + d = omega arith in
    let long : length (take d rest) ≡ d = length-take-le d rest (omega (arith, length-drop begun code)) in
    ap (kept_bits rate code) place
    ∙ kept_bits-behind rate code begun d whole
    ∙ ap (λ bits. kept_bits rate code begun ++ bits) (sym (ap (kept_bits rate (take d rest)) long ∙ kept_bits-take rate rest d))

-- at 1/2 all are kept
pub kept_bits-half : (code : List ℕ) (n : ℕ) → n ≤ length code → kept_bits Half code n ≡ take n code
kept_bits-half code zero within = refl
kept_bits-half code (suc n) within =
    let one : suc n ≡ n + 1 = omega arith in
    ap (kept_bits Half code) one
    ∙ kept_bits-kept Half code n refl
    ∙ ap (λ bits. bits ++ slice_index code n ∷ []) (kept_bits-half code n (omega arith))
    ∙ sym (take_more code n 0 (omega arith))
    ∙ ap (λ m. take m code) (sym one)
