-- Counting the bytes that differ by a mask of lanes.
use Rattle.std.proofs.Common.{◌≡◌, ℕ, ◌+◌, ◌%◌, ◌^◌, ◌<◌, ◌≤◌, List, [], ◌∷◌, map, ◌++◌, ◌-◌, length, take, drop, length-take, cond, Bool, true, false, not, eqb, get_or, w8, refl, ap, ◌∙◌, inl, inr, arith}
use Rattle.std.specs.Prelude.{count_ones, if◌then◌else◌, ◌==◌}
use Rattle.std.specs.Simd.Lanes.{zip2, mask_l, top}
use Rattle.std.proofs.lemmas.Simd.{ones-mask_l_cons, mask_l-mod, length-zip2}
use Rattle.std.proofs.lemmas.Bool.{cases_eq, ne_eqb}
use Rattle.std.proofs.lemmas.List.{length-map}
use Rattle.std.proofs.Math.Seq.{drop-cons, take-add}
use Rattle.std.specs.List.{slice_range}
use borrow.Rule.Simd.Lanes.{act2}
use borrow.Table.Row.{s_int}
use mir.Syntax.{mask, ne}
use Rattle.byte_lanes.specs.Differences.{differences_of}

abbrev pub differ : ℕ → ℕ → ℕ
differ = act2 (mask ne) (s_int w8) (s_int w8) (s_int w8)

-- the mask of the lanes that differ
abbrev pub differ_mask : List ℕ → List ℕ → ℕ
differ_mask xs ys = mask_l (map (top 7) (zip2 differ xs ys))

set_where_differ : (same : Bool) → ◌≡◌ {A = ℕ} (cond (top 7 (cond (not same) 255 0)) 1 0) (cond same 0 1)
set_where_differ true = refl
set_where_differ false = refl

counts : (xs ys : List ℕ) → length xs ≡ length ys → count_ones (differ_mask xs ys) ≡ differences_of xs ys
unfolding differences_of lib.Count.ones
counts [] ys h = refl
counts (x ∷ xs) [] h = absurd (omega arith)
counts (x ∷ xs) (y ∷ ys) h =
    let rest = counts xs ys (omega arith) in
    let one = ones-mask_l_cons (top 7 (differ x y)) (map (top 7) (zip2 differ xs ys)) in
    let head : ◌≡◌ {A = ℕ} (cond (top 7 (differ x y)) 1 0) (cond (eqb x y) 0 1) = set_where_differ (eqb x y) in
    omega arith

pub differences-le : (xs ys : List ℕ) → differences_of xs ys ≤ length xs
unfolding differences_of
differences-le [] ys = omega arith
differences-le (x ∷ xs) [] = omega arith
differences-le (x ∷ xs) (y ∷ ys) = let rest = differences-le xs ys in grind (arith)

-- the count of the bits of the mask of at most 64 lanes, as the code takes it
pub mask_counts : (xs ys : List ℕ) → length xs ≡ length ys → length xs ≤ 64 → count_ones (differ_mask xs ys % 2 ^ 64) ≡ differences_of xs ys
mask_counts xs ys h short =
    let long : length (map (top 7) (zip2 differ xs ys)) ≤ 64 = omega (arith, length-map (zip2 differ xs ys) (top 7), length-zip2 differ xs ys h) in
    ap count_ones (mask_l-mod (map (top 7) (zip2 differ xs ys)) 64 long) ∙ counts xs ys h

-- one list behind another
differences-append : (xs ys us vs : List ℕ) → length xs ≡ length ys → differences_of (xs ++ us) (ys ++ vs) ≡ differences_of xs ys + differences_of us vs
unfolding differences_of
differences-append [] [] us vs h = omega arith
differences-append [] (y ∷ ys) us vs h = absurd (omega arith)
differences-append (x ∷ xs) [] us vs h = absurd (omega arith)
differences-append (x ∷ xs) (y ∷ ys) us vs h = omega (arith, differences-append xs ys us vs (omega arith))

-- so many places more
pub differences-more : (xs ys : List ℕ) (i m j : ℕ) → j ≡ i + m → length xs ≡ length ys → differences_of (take j xs) (take j ys) ≡ differences_of (take i xs) (take i ys) + differences_of (slice_range xs i j) (slice_range ys i j)
differences-more xs ys i m j e h =
    let many : j - i ≡ m = omega arith in
    rw (e, take-add i m xs, take-add i m ys)
    (rw (← e) (rw many (differences-append (take i xs) (take i ys) (take m (drop i xs)) (take m (drop i ys)) (omega (arith, length-take i xs, length-take i ys)))))

-- no place yet
pub differences-none : 0 ≡ differences_of [] []
unfolding differences_of
differences-none = refl

-- one place more
pub differences-one : (xs ys : List ℕ) (n : ℕ) → n < length xs → length xs ≡ length ys → differences_of (take (n + 1) xs) (take (n + 1) ys) ≡ differences_of (take n xs) (take n ys) + (if get_or xs n 0 == get_or ys n 0 then 0 else 1)
unfolding differences_of
differences-one xs ys n below h =
    let x = drop-cons xs n 0 below in
    let y = drop-cons ys n 0 (omega arith) in
    let one : (n + 1) - n ≡ 1 = omega arith in
    let more = differences-more xs ys n 1 (n + 1) refl h in
    omega (arith, rw (one, x, y) at more)

-- where no place differs, two lists are one
same_lists : (xs ys : List ℕ) → length xs ≡ length ys → differences_of xs ys ≡ 0 → xs ≡ ys
unfolding differences_of
same_lists [] [] h none = refl
same_lists [] (y ∷ ys) h none = absurd (omega arith)
same_lists (x ∷ xs) [] h none = absurd (omega arith)
same_lists (x ∷ xs) (y ∷ ys) h none =
    elim (cases_eq x y) [
      | inl same ↦ rw (same, same_lists xs ys (omega arith) (omega arith))
      | inr other ↦ let test : eqb x y ≡ false = ne_eqb x y other in absurd (omega (arith, rw test at none))
    ]

ones_of_none : count_ones 0 ≡ 0
unfolding lib.Count.ones
ones_of_none = refl

-- and so where the mask of the lanes that differ is 0
pub same_by_mask : (xs ys : List ℕ) → length xs ≡ length ys → length xs ≤ 64 → differ_mask xs ys % 2 ^ 64 ≡ 0 → xs ≡ ys
same_by_mask xs ys h short none =
    same_lists xs ys h (omega (arith, mask_counts xs ys h short, ap count_ones none, ones_of_none))
