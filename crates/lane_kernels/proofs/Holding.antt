-- Numbers and sums held within 16 bits, lane by lane.
use Rattle.std.proofs.Common.{◌≡◌, ◌≤◌, ℕ, zero, suc, List, [], ◌∷◌, map, length, replicate, Bool, true, false, cond, ℤ, pos, negsuc, ◌+ℤ◌, to_z, of_z, w32, refl, ap, ◌∙◌, arith}
use Rattle.std.specs.Prelude.{FitsSigned, int_lt, unsigned_abs}
use Rattle.std.specs.Int.{int_min}
use Rattle.std.specs.Simd.Lanes.{zip2, Each1, Each2, sel_l, top}
use Rattle.std.proofs.lemmas.Int.{ints, clamps, to_z-of_z}
use borrow.Rule.Simd.Lanes.{act1, act2, Asks1, Asks2}
use borrow.Table.Row.{s_int}
use mir.Syntax.{add, cast, mask, lt, signed, w16}
use Rattle.lane_kernels.specs.Kernels.{held}
use Rattle.lane_kernels.specs.Lanes.{AreOf16Bits, AreOf32Bits, eight}
use Rattle.fixed_complex.specs.Numbers.{number_at}
use Rattle.lane_kernels.proofs.LaneSums.{eight_by, eight_of, to_z-cond}
use Rattle.lane_kernels.proofs.Totals.{eight-each}
use Rattle.lane_kernels.proofs.WordLanes.{bits, wide}

-- lanes held from above and from below, and as numbers of 16 bits
abbrev below_lanes : List ℕ → List ℕ → List Bool
below_lanes s t = map (top 31) (zip2 (act2 (mask (lt signed)) (s_int w32) (s_int w32) (s_int w32)) s t)

abbrev at_most : List ℕ → ℕ → List ℕ
at_most s k = sel_l (below_lanes s (replicate k 32767)) s (replicate k 32767)

abbrev at_least : List ℕ → ℕ → List ℕ
at_least t k = sel_l (below_lanes t (replicate k 4294934528)) (replicate k 4294934528) t

abbrev narrow : List ℕ → List ℤ
narrow t = map (to_z w16) (map (act1 (cast signed signed w16) (s_int w32) (s_int w16)) t)

-- a bit of a comparison's mask is the comparison
picked : (t : Bool) → top 31 (cond t 4294967295 0) ≡ t
picked true = refl
picked false = refl

-- the lesser of a number and 32767
lesser : (v : ℤ) → cond (int_lt v (pos 32767)) v (pos 32767) ≡ int_min v (pos 32767)
lesser v = grind (arith, ints)

-- the bits of a number held from above, as the lanes have it
abbrev least_lane : ℕ → ℕ
least_lane s = cond (top 31 (cond (int_lt (to_z w32 s) (pos 32767)) 4294967295 0)) s 32767

-- and from below
abbrev held_lane : ℕ → ℕ
held_lane s = cond (top 31 (cond (int_lt (to_z w32 (least_lane s)) (negsuc 32767)) 4294967295 0)) 4294934528 (least_lane s)

held_lane-is : (s : ℕ) (v : ℤ) → to_z w32 s ≡ v → to_z w32 (held_lane s) ≡ held v
held_lane-is s v is =
    let low : to_z w32 (least_lane s) ≡ int_min v (pos 32767) =
    rw (picked (int_lt (to_z w32 s) (pos 32767)), to_z-cond w32 (int_lt (to_z w32 s) (pos 32767)) s 32767, is) (lesser v) in
    rw (picked (int_lt (to_z w32 (least_lane s)) (negsuc 32767)), to_z-cond w32 (int_lt (to_z w32 (least_lane s)) (negsuc 32767)) 4294934528 (least_lane s), low) refl

pub held-fits : (v : ℤ) → FitsSigned w16 (held v)
held-fits v = omega (arith, ints, clamps)

-- what is small is not held
pub held-small : (v : ℤ) → unsigned_abs v ≤ 32767 → held v ≡ v
held-small v small = omega (arith, ints, clamps)

-- numbers held, lane by lane
pub casts_fit : (x : List ℤ) (k : ℕ) → AreOf32Bits x → length x ≡ k → Each1 (Asks1 (cast signed signed w16) (s_int w32)) (at_least (at_most (bits x) k) k)
casts_fit [] zero h e = tt
casts_fit [] (suc k) h e = absurd (omega arith)
casts_fit (a ∷ x) zero h e = absurd (omega arith)
casts_fit (a ∷ x) (suc k) h e =
    let here : FitsSigned w16 (to_z w32 (held_lane (of_z w32 a))) = rw (held_lane-is (of_z w32 a) a (to_z-of_z w32 a (h 0))) (held-fits a) in
    (here, casts_fit x k (λ n. h (suc n)) (omega arith))

pub numbers_held : (x : List ℤ) (k : ℕ) → AreOf32Bits x → length x ≡ k → narrow (at_least (at_most (bits x) k) k) ≡ map held x
numbers_held [] zero h e = refl
numbers_held [] (suc k) h e = absurd (omega arith)
numbers_held (a ∷ x) zero h e = absurd (omega arith)
numbers_held (a ∷ x) (suc k) h e =
    let rest = numbers_held x k (λ n. h (suc n)) (omega arith) in
    let here : to_z w16 (of_z w16 (to_z w32 (held_lane (of_z w32 a)))) ≡ held a =
    rw (held_lane-is (of_z w32 a) a (to_z-of_z w32 a (h 0))) (to_z-of_z w16 (held a) (held-fits a)) in
    λ i. here i ∷ rest i

-- eight of them
pub eight_held : (x : List ℤ) → length x ≡ 8 → map held x ≡ eight (λ n. held (number_at x n))
eight_held x h = ap (map held) (eight_of x h)

-- sums of numbers of 16 bits, lane by lane
sum_lane-is : (a b : ℤ) → FitsSigned w16 a → FitsSigned w16 b
    → to_z w32 (of_z w32 (to_z w32 (of_z w32 (to_z w16 (of_z w16 a))) +ℤ to_z w32 (of_z w32 (to_z w16 (of_z w16 b))))) ≡ a +ℤ b
sum_lane-is a b h k = omega (arith, ints)

pub sums_fit : (x y : List ℤ) → AreOf16Bits x → AreOf16Bits y → Each2 (Asks2 (add signed) (s_int w32) (s_int w32)) (wide x) (wide y)
sums_fit [] y h k = tt
sums_fit (a ∷ x) [] h k = tt
sums_fit (a ∷ x) (b ∷ y) h k =
    let a_fits = h 0 in
    let b_fits = k 0 in
    (omega (arith, ints), sums_fit x y (λ n. h (suc n)) (λ n. k (suc n)))

sums_are : (x y : List ℤ) → AreOf16Bits x → AreOf16Bits y → map (to_z w32) (zip2 (act2 (add signed) (s_int w32) (s_int w32) (s_int w32)) (wide x) (wide y)) ≡ zip2 ◌+ℤ◌ x y
sums_are [] y h k = refl
sums_are (a ∷ x) [] h k = refl
sums_are (a ∷ x) (b ∷ y) h k =
    let here = sum_lane-is a b (h 0) (k 0) in
    let rest = sums_are x y (λ n. h (suc n)) (λ n. k (suc n)) in
    λ i. here i ∷ rest i

-- of eight of them
pub eight_sums : (x y : List ℤ) → AreOf16Bits x → AreOf16Bits y → length x ≡ 8 → length y ≡ 8
    → map (to_z w32) (zip2 (act2 (add signed) (s_int w32) (s_int w32) (s_int w32)) (wide x) (wide y)) ≡ eight (λ n. number_at x n +ℤ number_at y n)
eight_sums x y h k x_long y_long =
    sums_are x y h k ∙ eight_by ◌+ℤ◌ x y x_long y_long

pub sums_of_32_bits : (x y s : List ℤ) → AreOf16Bits x → AreOf16Bits y → s ≡ eight (λ n. number_at x n +ℤ number_at y n) → AreOf32Bits s
sums_of_32_bits x y s h k is =
    let one = λ (n : ℕ). let a_fits = h n in let b_fits = k n in let fits : FitsSigned w32 (number_at x n +ℤ number_at y n) = omega (arith, ints) in fits in
    rw is (eight-each (FitsSigned w32) (λ n. number_at x n +ℤ number_at y n) (one 0) (one 1) (one 2) (one 3) (one 4) (one 5) (one 6) (one 7) (omega (arith, ints)))
