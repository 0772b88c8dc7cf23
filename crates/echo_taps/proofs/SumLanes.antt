-- Sums of products in lanes of 32 bits, and the samples that they are held as.
use Rattle.std.proofs.Common.{◌≡◌, ℕ, ◌+◌, ◌*◌, ◌^◌, ◌≤◌, List, [], ◌∷◌, ◌++◌, map, length, replicate, ℤ, pos, negsuc, ◌+ℤ◌, to_z, of_z, w32, refl, sym, ap, subst, ◌∙◌, arith}
use Rattle.std.specs.Prelude.{FitsSigned, unsigned_abs}
use Rattle.std.specs.Simd.Lanes.{zip2, Each2, pick_l}
use Rattle.std.proofs.lemmas.Int.{ints}
use borrow.Rule.Simd.Lanes.{act2, Asks2}
use borrow.Table.Row.{s_int}
use lib.Signed.{shr_z}
use mir.Syntax.{add, shr, signed}
use Rattle.integer_laws.specs.Floor.{floor_div}
use Rattle.fixed_complex.specs.Numbers.{NumbersWithin, number_at}
use Rattle.fixed_complex.specs.Rounding.{half_up}
use Rattle.lane_kernels.specs.Lanes.{AreOf32Bits, four}
use Rattle.lane_kernels.proofs.FourLanes.{four_of}
use Rattle.lane_kernels.proofs.LaneSums.{eight_of}
use Rattle.lane_kernels.proofs.Totals.{eight-each}
use Rattle.lane_kernels.proofs.WordLanes.{bits, evens, neighbours, odds}
use Rattle.echo_taps.specs.declared.lanes.Four.{Four}
use Rattle.echo_taps.specs.Blocks.{IsFourWithin}

-- ---- sums in one lane
abbrev word : ℤ → ℤ
word z = to_z w32 (of_z w32 z)

word-is : (z : ℤ) → unsigned_abs z ≤ 2 ^ 30 → word z ≡ z
word-is z h = omega (arith, ints)

abbrev both : ℤ → ℤ → ℤ
both a b = word (word a +ℤ word b)

both-fits : (a b : ℤ) → unsigned_abs a ≤ 2 ^ 25 → unsigned_abs b ≤ 2 ^ 25 → FitsSigned w32 (word a +ℤ word b)
both-fits a b h k = rw (word-is a (omega arith), word-is b (omega arith)) (omega (arith, ints))

both-is : (a b : ℤ) → unsigned_abs a ≤ 2 ^ 25 → unsigned_abs b ≤ 2 ^ 25 → both a b ≡ a +ℤ b
both-is a b h k = rw (word-is a (omega arith), word-is b (omega arith)) (omega (arith, ints))

sum-fits : (s a b : ℤ) → unsigned_abs s ≤ 2 ^ 29 → unsigned_abs a ≤ 2 ^ 25 → unsigned_abs b ≤ 2 ^ 25 → FitsSigned w32 (word s +ℤ both a b)
sum-fits s a b g h k = rw (word-is s (omega arith), both-is a b h k) (omega (arith, ints))

sum-is : (s a b : ℤ) → unsigned_abs s ≤ 2 ^ 29 → unsigned_abs a ≤ 2 ^ 25 → unsigned_abs b ≤ 2 ^ 25 → word (word s +ℤ both a b) ≡ s +ℤ (a +ℤ b)
sum-is s a b g h k = rw (word-is s (omega arith), both-is a b h k) (word-is (s +ℤ (a +ℤ b)) (omega (arith, ints)))

-- ---- sums in four lanes
pub neighbours_fit : (p : List ℤ) → length p ≡ 8 → NumbersWithin (2 ^ 25) p → Each2 (Asks2 (add signed) (s_int w32) (s_int w32)) (evens (bits p)) (odds (bits p))
neighbours_fit p long h =
    let z = number_at p in
    subst (λ (l : List ℤ). Each2 (Asks2 (add signed) (s_int w32) (s_int w32)) (evens (bits l)) (odds (bits l))) (sym (eight_of p long))
    (both-fits (z 0) (z 1) (h 0) (h 1), (both-fits (z 2) (z 3) (h 2) (h 3), (both-fits (z 4) (z 5) (h 4) (h 5), (both-fits (z 6) (z 7) (h 6) (h 7), tt))))

pub sums_fit : (s p : List ℤ) → length s ≡ 4 → length p ≡ 8 → NumbersWithin (2 ^ 29) s → NumbersWithin (2 ^ 25) p → Each2 (Asks2 (add signed) (s_int w32) (s_int w32)) (bits s) (neighbours p)
sums_fit s p s_long long g h =
    let y = number_at s in
    let z = number_at p in
    subst (λ (l : List ℤ). Each2 (Asks2 (add signed) (s_int w32) (s_int w32)) (bits l) (neighbours p)) (sym (four_of (pos 0) s s_long))
    (subst (λ (l : List ℤ). Each2 (Asks2 (add signed) (s_int w32) (s_int w32)) (bits (four y)) (neighbours l)) (sym (eight_of p long))
    (sum-fits (y 0) (z 0) (z 1) (g 0) (h 0) (h 1), (sum-fits (y 1) (z 2) (z 3) (g 1) (h 2) (h 3), (sum-fits (y 2) (z 4) (z 5) (g 2) (h 4) (h 5), (sum-fits (y 3) (z 6) (z 7) (g 3) (h 6) (h 7), tt)))))

pub sums_are : (s p : List ℤ) → length s ≡ 4 → length p ≡ 8 → NumbersWithin (2 ^ 29) s → NumbersWithin (2 ^ 25) p
    → map (to_z w32) (zip2 (act2 (add signed) (s_int w32) (s_int w32) (s_int w32)) (bits s) (neighbours p)) ≡ four (λ n. number_at s n +ℤ (number_at p (2 * n) +ℤ number_at p (2 * n + 1)))
sums_are s p s_long long g h =
    let y = number_at s in
    let z = number_at p in
    let e0 = sum-is (y 0) (z 0) (z 1) (g 0) (h 0) (h 1) in
    let e1 = sum-is (y 1) (z 2) (z 3) (g 1) (h 2) (h 3) in
    let e2 = sum-is (y 2) (z 4) (z 5) (g 2) (h 4) (h 5) in
    let e3 = sum-is (y 3) (z 6) (z 7) (g 3) (h 6) (h 7) in
    ap (λ (l : List ℤ). map (to_z w32) (zip2 (act2 (add signed) (s_int w32) (s_int w32) (s_int w32)) (bits l) (neighbours p))) (four_of (pos 0) s s_long)
    ∙ (ap (λ (l : List ℤ). map (to_z w32) (zip2 (act2 (add signed) (s_int w32) (s_int w32) (s_int w32)) (bits (four y)) (neighbours l))) (eight_of p long)
    ∙ (λ i. e0 i ∷ e1 i ∷ e2 i ∷ e3 i ∷ []))

-- ---- a rounded sum in one lane
half-fits : (z : ℤ) → unsigned_abs z ≤ 2 ^ 29 → FitsSigned w32 (word z +ℤ pos 512)
half-fits z h = rw (word-is z (omega arith)) (omega (arith, ints))

shifted : (z : ℤ) → shr_z z 1024 ≡ floor_div z 1024
shifted (pos n) = refl
shifted (negsuc n) = refl

floor_within : (z : ℤ) → unsigned_abs (floor_div z 1024) ≤ unsigned_abs z
floor_within (pos n) = omega arith
floor_within (negsuc n) = omega arith

abbrev rounded_lane : ℤ → ℕ
rounded_lane z = act2 (shr signed) (s_int w32) (s_int w32) (s_int w32) (act2 (add signed) (s_int w32) (s_int w32) (s_int w32) (of_z w32 z) 512) 10

rounded_lane-is : (z : ℤ) → unsigned_abs z ≤ 2 ^ 29 → to_z w32 (rounded_lane z) ≡ half_up 10 z
rounded_lane-is z h =
    let whole = z +ℤ pos 512 in
    let within : unsigned_abs whole ≤ 2 ^ 30 = omega (arith, ints) in
    rw (word-is z (omega arith), word-is whole within, shifted whole) (word-is (floor_div whole 1024) (omega (arith, floor_within whole)))

-- ---- in eight lanes
abbrev mixed : List ℤ → List ℤ → List ℕ
mixed x y = pick_l 0 (bits x ++ bits y) (0 ∷ 4 ∷ 1 ∷ 5 ∷ 2 ∷ 6 ∷ 3 ∷ 7 ∷ [])

abbrev rounded : List ℕ → List ℕ
rounded l = zip2 (act2 (shr signed) (s_int w32) (s_int w32) (s_int w32)) (zip2 (act2 (add signed) (s_int w32) (s_int w32) (s_int w32)) l (replicate 8 512)) (replicate 8 10)

pub halves_fit : (x y : List ℤ) → length x ≡ 4 → length y ≡ 4 → NumbersWithin (2 ^ 29) x → NumbersWithin (2 ^ 29) y → Each2 (Asks2 (add signed) (s_int w32) (s_int w32)) (mixed x y) (replicate 8 512)
halves_fit x y x_long y_long g h =
    let a = number_at x in
    let b = number_at y in
    subst (λ (l : List ℤ). Each2 (Asks2 (add signed) (s_int w32) (s_int w32)) (mixed l y) (replicate 8 512)) (sym (four_of (pos 0) x x_long))
    (subst (λ (l : List ℤ). Each2 (Asks2 (add signed) (s_int w32) (s_int w32)) (mixed (four a) l) (replicate 8 512)) (sym (four_of (pos 0) y y_long))
    (half-fits (a 0) (g 0), (half-fits (b 0) (h 0), (half-fits (a 1) (g 1), (half-fits (b 1) (h 1), (half-fits (a 2) (g 2), (half-fits (b 2) (h 2), (half-fits (a 3) (g 3), (half-fits (b 3) (h 3), tt)))))))))

-- the parts of four sums, each over 1024 and rounded half up
abbrev rounded_parts : Four → List ℤ
rounded_parts sums =
    half_up 10 (number_at sums.re 0) ∷ half_up 10 (number_at sums.im 0) ∷ half_up 10 (number_at sums.re 1) ∷ half_up 10 (number_at sums.im 1)
    ∷ half_up 10 (number_at sums.re 2) ∷ half_up 10 (number_at sums.im 2) ∷ half_up 10 (number_at sums.re 3) ∷ half_up 10 (number_at sums.im 3) ∷ []

pub rounded_are : (sums : Four) → length sums.re ≡ 4 → length sums.im ≡ 4 → IsFourWithin (2 ^ 29) sums → map (to_z w32) (rounded (mixed sums.re sums.im)) ≡ rounded_parts sums
rounded_are sums x_long y_long h =
    let a = number_at sums.re in
    let b = number_at sums.im in
    let e0 = rounded_lane-is (a 0) (h.re 0) in
    let e1 = rounded_lane-is (b 0) (h.im 0) in
    let e2 = rounded_lane-is (a 1) (h.re 1) in
    let e3 = rounded_lane-is (b 1) (h.im 1) in
    let e4 = rounded_lane-is (a 2) (h.re 2) in
    let e5 = rounded_lane-is (b 2) (h.im 2) in
    let e6 = rounded_lane-is (a 3) (h.re 3) in
    let e7 = rounded_lane-is (b 3) (h.im 3) in
    ap (λ (l : List ℤ). map (to_z w32) (rounded (mixed l sums.im))) (four_of (pos 0) sums.re x_long)
    ∙ (ap (λ (l : List ℤ). map (to_z w32) (rounded (mixed (four a) l))) (four_of (pos 0) sums.im y_long)
    ∙ (λ i. e0 i ∷ e1 i ∷ e2 i ∷ e3 i ∷ e4 i ∷ e5 i ∷ e6 i ∷ e7 i ∷ []))

rounded-fits : (z : ℤ) → unsigned_abs z ≤ 2 ^ 29 → FitsSigned w32 (half_up 10 z)
rounded-fits z h = let within : unsigned_abs (z +ℤ pos 512) ≤ 2 ^ 30 = omega (arith, ints) in omega (arith, ints, floor_within (z +ℤ pos 512))

pub rounded_fit : (sums : Four) (r : List ℤ) → IsFourWithin (2 ^ 29) sums → r ≡ rounded_parts sums → AreOf32Bits r
rounded_fit sums r h is =
    let a = number_at sums.re in
    let b = number_at sums.im in
    rw is (eight-each (FitsSigned w32) (number_at (rounded_parts sums)) (rounded-fits (a 0) (h.re 0)) (rounded-fits (b 0) (h.im 0)) (rounded-fits (a 1) (h.re 1)) (rounded-fits (b 1) (h.im 1))
    (rounded-fits (a 2) (h.re 2)) (rounded-fits (b 2) (h.im 2)) (rounded-fits (a 3) (h.re 3)) (rounded-fits (b 3) (h.im 3)) (omega (arith, ints)))
