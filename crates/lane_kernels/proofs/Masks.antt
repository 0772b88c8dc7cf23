-- Numbers of 16 bits that no mask of a comparison has.
use Rattle.std.proofs.Common.{◌≡◌, ℕ, zero, suc, ◌*◌, ◌%◌, ◌+◌, ◌^◌, ◌≤◌, List, [], ◌∷◌, map, length, Bool, true, false, cond, not, leb, eqb, replicate, ℤ, pos, negsuc, neg_ℤ, ◌≤ℤ◌, to_z, of_z, refl, sym, ap, ◌∙◌, arith}
use Rattle.std.specs.Prelude.{int_lt}
use Rattle.std.specs.Simd.Lanes.{zip2, mask_l, top}
use Rattle.std.proofs.lemmas.Int.{ints}
use Rattle.std.proofs.lemmas.Simd.{mask_l-mod}
use Rattle.std.proofs.lemmas.Bool.Decides.{nat_tests}
use borrow.Rule.Simd.Lanes.{act2}
use borrow.Table.Row.{s_int}
use mir.Syntax.{mask, lt, signed, w16}
use Rattle.lane_kernels.specs.Lanes.{AreOf16Bits}
use Rattle.fixed_complex.specs.Numbers.{number_at}

-- a number of 16 bits, as the code passes it on
abbrev component : ℤ → ℤ
component z = to_z w16 (of_z w16 z)

-- no bit of a mask is set
empty_mask : (t : Bool) (m : ℕ) → cond (leb 32768 (cond t 65535 0)) 1 0 + 2 * m ≡ 0 → (t ≡ false) × (m ≡ 0)
empty_mask true m e = absurd (omega arith)
empty_mask false m e = (refl, omega arith)

-- the mask of the lanes above 256, and of those below -256
abbrev above_lanes : List ℤ → ℕ → List Bool
above_lanes xs k = map (top 15) (zip2 (act2 (mask (lt signed)) (s_int w16) (s_int w16) (s_int w16)) (replicate k 256) (map (of_z w16) xs))

abbrev below_lanes : List ℤ → ℕ → List Bool
below_lanes xs k = map (top 15) (zip2 (act2 (mask (lt signed)) (s_int w16) (s_int w16) (s_int w16)) (map (of_z w16) xs) (replicate k 65280))

not_above : (xs : List ℤ) (k : ℕ) → AreOf16Bits xs → length xs ≡ k → mask_l (above_lanes xs k) ≡ 0 → (n : ℕ) → number_at xs n ≤ℤ pos 256
not_above [] k h e m n = omega (arith, ints)
not_above (x ∷ xs) zero h e m n = absurd (omega arith)
not_above (x ∷ xs) (suc k) h e m zero =
    let fits = h 0 in
    let front : int_lt (pos 256) (component x) ≡ false = (empty_mask (int_lt (pos 256) (component x)) (mask_l (above_lanes xs k)) m).0 in
    grind (arith, ints)
not_above (x ∷ xs) (suc k) h e m (suc n) =
    not_above xs k (λ i. h (suc i)) (omega arith) (empty_mask (int_lt (pos 256) (component x)) (mask_l (above_lanes xs k)) m).1 n

not_below : (xs : List ℤ) (k : ℕ) → AreOf16Bits xs → length xs ≡ k → mask_l (below_lanes xs k) ≡ 0 → (n : ℕ) → neg_ℤ (pos 256) ≤ℤ number_at xs n
not_below [] k h e m n = omega (arith, ints)
not_below (x ∷ xs) zero h e m n = absurd (omega arith)
not_below (x ∷ xs) (suc k) h e m zero =
    let fits = h 0 in
    let front : int_lt (component x) (negsuc 255) ≡ false = (empty_mask (int_lt (component x) (negsuc 255)) (mask_l (below_lanes xs k)) m).0 in
    grind (arith, ints)
not_below (x ∷ xs) (suc k) h e m (suc n) =
    not_below xs k (λ i. h (suc i)) (omega arith) (empty_mask (int_lt (component x) (negsuc 255)) (mask_l (below_lanes xs k)) m).1 n

length-above : (xs : List ℤ) (k : ℕ) → length xs ≡ k → length (above_lanes xs k) ≡ k
length-above [] zero e = refl
length-above [] (suc k) e = absurd (omega arith)
length-above (x ∷ xs) zero e = absurd (omega arith)
length-above (x ∷ xs) (suc k) e = ap suc (length-above xs k (omega arith))

length-below : (xs : List ℤ) (k : ℕ) → length xs ≡ k → length (below_lanes xs k) ≡ k
length-below [] zero e = refl
length-below [] (suc k) e = absurd (omega arith)
length-below (x ∷ xs) zero e = absurd (omega arith)
length-below (x ∷ xs) (suc k) e = ap suc (length-below xs k (omega arith))

-- a test that a number isn't 0
pub zero_where_not : (m : ℕ) → not (eqb m 0) ≡ false → m ≡ 0
zero_where_not m h = grind (arith, nat_tests)

-- eight numbers of which a mask has none
pub none_above : (xs : List ℤ) → AreOf16Bits xs → length xs ≡ 8 → mask_l (above_lanes xs 8) % 2 ^ 64 ≡ 0 → (n : ℕ) → number_at xs n ≤ℤ pos 256
none_above xs h long above =
    let lanes : length (above_lanes xs 8) ≤ 64 = omega (arith, length-above xs 8 long) in
    not_above xs 8 h long (sym (mask_l-mod (above_lanes xs 8) 64 lanes) ∙ above)

pub none_below : (xs : List ℤ) → AreOf16Bits xs → length xs ≡ 8 → mask_l (below_lanes xs 8) % 2 ^ 64 ≡ 0 → (n : ℕ) → neg_ℤ (pos 256) ≤ℤ number_at xs n
none_below xs h long below =
    let lanes : length (below_lanes xs 8) ≤ 64 = omega (arith, length-below xs 8 long) in
    not_below xs 8 h long (sym (mask_l-mod (below_lanes xs 8) 64 lanes) ∙ below)
