-- Products of numbers of 16 bits in lanes of 32 bits, and sums of neighbours.
use Rattle.std.proofs.Common.{◌≡◌, ℕ, suc, ◌+◌, ◌*◌, ◌<◌, List, [], ◌∷◌, ◌++◌, map, length, replicate, ℤ, pos, ◌+ℤ◌, ◌*ℤ◌, ◌≤ℤ◌, to_z, of_z, w32, refl, sym, ap, subst, ◌∙◌, nat_abs, negsuc, T, arith}
use Rattle.std.proofs.Math.IntN.{*ℤ-zero}
use Rattle.std.specs.Prelude.{FitsSigned}
use Rattle.std.specs.Simd.Lanes.{zip2, Each1, Each2, pick_l}
use Rattle.std.proofs.lemmas.Int.{ints, to_z-of_z}
use borrow.Rule.Simd.Lanes.{act1, act2, Asks1, Asks2}
use borrow.Table.Row.{s_int}
use mir.Syntax.{add, mul, cast, signed, unsigned, w16}
use mir.Val.{Fits}
use lib.Signed.{non_neg}
use Rattle.lane_kernels.specs.Lanes.{AreOf16Bits, AreProducts, AreSquares, IsProduct, IsSquare, eight, four}
use Rattle.fixed_complex.specs.Numbers.{number_at}
use Rattle.lane_kernels.proofs.Bounds.{product-bounds}
use Rattle.lane_kernels.proofs.LaneSums.{eight_of, pos-sum}
use Rattle.lane_kernels.proofs.Totals.{eight-each}
use Rattle.integer_laws.proofs.FewPlaces.{at_four}
use Rattle.integer_laws.proofs.Products.{*ℤ_one}

-- a number of 16 bits in a lane of 32
abbrev wide_lane : ℤ → ℤ
wide_lane z = to_z w32 (of_z w32 (to_z w16 (of_z w16 z)))

wide-is : (z : ℤ) → FitsSigned w16 z → wide_lane z ≡ z
wide-is z h = omega (arith, ints)

product-fits : (z : ℤ) → IsProduct z → FitsSigned w32 z
product-fits z h = omega (arith, ints, h.low, h.high)

-- and numbers in lanes
abbrev pub wide : List ℤ → List ℕ
wide xs = map (act1 (cast signed signed w32) (s_int w16) (s_int w32)) (map (of_z w16) xs)

pub products_fit : (x y : List ℤ) → AreOf16Bits x → AreOf16Bits y → Each2 (Asks2 (mul signed) (s_int w32) (s_int w32)) (wide x) (wide y)
products_fit [] y h k = tt
products_fit (a ∷ x) [] h k = tt
products_fit (a ∷ x) (b ∷ y) h k =
    let here : FitsSigned w32 (wide_lane a *ℤ wide_lane b) =
    rw (wide-is a (h 0), wide-is b (k 0)) (product-fits (a *ℤ b) (product-bounds a b (h 0) (k 0))) in
    (here, products_fit x y (λ n. h (suc n)) (λ n. k (suc n)))

pub products_are : (x y : List ℤ) → AreOf16Bits x → AreOf16Bits y → map (to_z w32) (zip2 (act2 (mul signed) (s_int w32) (s_int w32) (s_int w32)) (wide x) (wide y)) ≡ zip2 ◌*ℤ◌ x y
products_are [] y h k = refl
products_are (a ∷ x) [] h k = refl
products_are (a ∷ x) (b ∷ y) h k =
    let rest = products_are x y (λ n. h (suc n)) (λ n. k (suc n)) in
    let here : to_z w32 (of_z w32 (wide_lane a *ℤ wide_lane b)) ≡ a *ℤ b =
    rw (wide-is a (h 0), wide-is b (k 0)) (to_z-of_z w32 (a *ℤ b) (product-fits (a *ℤ b) (product-bounds a b (h 0) (k 0)))) in
    λ i. here i ∷ rest i

-- the even and the odd lanes of eight numbers
abbrev pub evens : List ℕ → List ℕ
evens l = pick_l 0 (l ++ l) (0 ∷ 2 ∷ 4 ∷ 6 ∷ [])

abbrev pub odds : List ℕ → List ℕ
odds l = pick_l 0 (l ++ l) (1 ∷ 3 ∷ 5 ∷ 7 ∷ [])

abbrev pub bits : List ℤ → List ℕ
bits = map (of_z w32)

-- lanes that have 2^30 - 1 more
abbrev biased : List ℕ → List ℕ
biased l = zip2 (act2 (add signed) (s_int w32) (s_int w32) (s_int w32)) l (replicate 4 1073741823)

abbrev unsigned_lanes : List ℕ → List ℕ
unsigned_lanes = map (act1 (cast signed unsigned w32) (s_int w32) (s_int w32))

-- in one lane
abbrev bias_lane : ℤ → ℤ
bias_lane z = to_z w32 (of_z w32 z) +ℤ pos 1073741823

abbrev number_lane : ℤ → ℤ
number_lane z = to_z w32 (of_z w32 (bias_lane z))

bias-fits : (z : ℤ) → IsProduct z → FitsSigned w32 (bias_lane z)
bias-fits z h = omega (arith, ints, h.low, h.high)

number-is : (z : ℤ) → IsProduct z → number_lane z ≡ z +ℤ pos 1073741823
number-is z h = omega (arith, ints, h.low, h.high)

cast-fits : (v : ℤ) → pos 0 ≤ℤ v → v ≤ℤ pos 4294967295 → T (non_neg v) × Fits w32 (nat_abs v)
cast-fits (pos n) h k = (tt, record { fits = omega (arith, ints) })
cast-fits (negsuc n) h k = absurd (omega (arith, ints))

abs-is : (v : ℤ) → pos 0 ≤ℤ v → pos (nat_abs v) ≡ v
abs-is (pos n) h = refl
abs-is (negsuc n) h = absurd (omega (arith, ints))

number-cast : (z : ℤ) → IsProduct z → T (non_neg (number_lane z)) × Fits w32 (nat_abs (number_lane z))
number-cast z h =
    let e = number-is z h in
    let low : pos 0 ≤ℤ number_lane z = rw e (omega (arith, ints, h.low)) in
    let high : number_lane z ≤ℤ pos 4294967295 = rw e (omega (arith, ints, h.high)) in
    cast-fits (number_lane z) low high

abs-number : (z : ℤ) → IsProduct z → pos (nat_abs (number_lane z)) ≡ z +ℤ pos 1073741823
abs-number z h =
    let e = number-is z h in
    let low : pos 0 ≤ℤ number_lane z = rw e (omega (arith, ints, h.low)) in
    abs-is (number_lane z) low ∙ e

pair-fits : (m n : ℕ) (a b : ℤ) → pos m ≡ a +ℤ pos 1073741823 → pos n ≡ b +ℤ pos 1073741823 → IsProduct a → IsProduct b → Fits w32 (m + n)
pair-fits m n a b d e h k = record { fits = omega (arith, ints, h.high, k.high) }

pair-is : (m n : ℕ) (a b : ℤ) → pos m ≡ a +ℤ pos 1073741823 → pos n ≡ b +ℤ pos 1073741823 → pos (m + n) ≡ a +ℤ b +ℤ pos 2147483646
pair-is m n a b d e = omega (arith, ints)

-- what the sums of neighbours ask, and what they are
pub even_biases_fit : (p : List ℤ) → length p ≡ 8 → AreProducts p → Each2 (Asks2 (add signed) (s_int w32) (s_int w32)) (evens (bits p)) (replicate 4 1073741823)
even_biases_fit p long h =
    let z = number_at p in
    subst (λ (l : List ℤ). Each2 (Asks2 (add signed) (s_int w32) (s_int w32)) (evens (bits l)) (replicate 4 1073741823)) (sym (eight_of p long))
    (bias-fits (z 0) (h 0), (bias-fits (z 2) (h 2), (bias-fits (z 4) (h 4), (bias-fits (z 6) (h 6), tt))))

pub odd_biases_fit : (p : List ℤ) → length p ≡ 8 → AreProducts p → Each2 (Asks2 (add signed) (s_int w32) (s_int w32)) (odds (bits p)) (replicate 4 1073741823)
odd_biases_fit p long h =
    let z = number_at p in
    subst (λ (l : List ℤ). Each2 (Asks2 (add signed) (s_int w32) (s_int w32)) (odds (bits l)) (replicate 4 1073741823)) (sym (eight_of p long))
    (bias-fits (z 1) (h 1), (bias-fits (z 3) (h 3), (bias-fits (z 5) (h 5), (bias-fits (z 7) (h 7), tt))))

pub even_casts_fit : (p : List ℤ) → length p ≡ 8 → AreProducts p → Each1 (Asks1 (cast signed unsigned w32) (s_int w32)) (biased (evens (bits p)))
even_casts_fit p long h =
    let z = number_at p in
    subst (λ (l : List ℤ). Each1 (Asks1 (cast signed unsigned w32) (s_int w32)) (biased (evens (bits l)))) (sym (eight_of p long))
    (number-cast (z 0) (h 0), (number-cast (z 2) (h 2), (number-cast (z 4) (h 4), (number-cast (z 6) (h 6), tt))))

pub odd_casts_fit : (p : List ℤ) → length p ≡ 8 → AreProducts p → Each1 (Asks1 (cast signed unsigned w32) (s_int w32)) (biased (odds (bits p)))
odd_casts_fit p long h =
    let z = number_at p in
    subst (λ (l : List ℤ). Each1 (Asks1 (cast signed unsigned w32) (s_int w32)) (biased (odds (bits l)))) (sym (eight_of p long))
    (number-cast (z 1) (h 1), (number-cast (z 3) (h 3), (number-cast (z 5) (h 5), (number-cast (z 7) (h 7), tt))))

both-fit : (a b : ℤ) → IsProduct a → IsProduct b → Fits w32 (nat_abs (number_lane a) + nat_abs (number_lane b))
both-fit a b h k = pair-fits (nat_abs (number_lane a)) (nat_abs (number_lane b)) a b (abs-number a h) (abs-number b k) h k

both-are : (a b : ℤ) → IsProduct a → IsProduct b → pos (nat_abs (number_lane a) + nat_abs (number_lane b)) ≡ a +ℤ b +ℤ pos 2147483646
both-are a b h k = pair-is (nat_abs (number_lane a)) (nat_abs (number_lane b)) a b (abs-number a h) (abs-number b k)

abbrev pub even_numbers : List ℤ → List ℕ
even_numbers p = unsigned_lanes (biased (evens (bits p)))

abbrev pub odd_numbers : List ℤ → List ℕ
odd_numbers p = unsigned_lanes (biased (odds (bits p)))

pub pairs_fit : (p : List ℤ) → length p ≡ 8 → AreProducts p → Each2 (Asks2 (add unsigned) (s_int w32) (s_int w32)) (even_numbers p) (odd_numbers p)
pairs_fit p long h =
    let z = number_at p in
    subst (λ (l : List ℤ). Each2 (Asks2 (add unsigned) (s_int w32) (s_int w32)) (even_numbers l) (odd_numbers l)) (sym (eight_of p long))
    (both-fit (z 0) (z 1) (h 0) (h 1), (both-fit (z 2) (z 3) (h 2) (h 3), (both-fit (z 4) (z 5) (h 4) (h 5), (both-fit (z 6) (z 7) (h 6) (h 7), tt))))

pub pairs_are : (p : List ℤ) → length p ≡ 8 → AreProducts p → map pos (zip2 (act2 (add unsigned) (s_int w32) (s_int w32) (s_int w32)) (even_numbers p) (odd_numbers p)) ≡ four (λ n. number_at p (2 * n) +ℤ number_at p (2 * n + 1) +ℤ pos 2147483646)
pairs_are p long h =
    let z = number_at p in
    let e0 = both-are (z 0) (z 1) (h 0) (h 1) in
    let e1 = both-are (z 2) (z 3) (h 2) (h 3) in
    let e2 = both-are (z 4) (z 5) (h 4) (h 5) in
    let e3 = both-are (z 6) (z 7) (h 6) (h 7) in
    ap (λ (l : List ℤ). map pos (zip2 (act2 (add unsigned) (s_int w32) (s_int w32) (s_int w32)) (even_numbers l) (odd_numbers l))) (eight_of p long)
    ∙ (λ i. e0 i ∷ e1 i ∷ e2 i ∷ e3 i ∷ [])

-- the same of squares, which need no bias
abbrev square_lane : ℤ → ℤ
square_lane z = to_z w32 (of_z w32 z)

square-is : (z : ℤ) → IsSquare z → square_lane z ≡ z
square-is z h = omega (arith, ints, h.low, h.high)

square-cast : (z : ℤ) → IsSquare z → T (non_neg (square_lane z)) × Fits w32 (nat_abs (square_lane z))
square-cast z h =
    let e = square-is z h in
    let low : pos 0 ≤ℤ square_lane z = rw e h.low in
    let high : square_lane z ≤ℤ pos 4294967295 = rw e (omega (arith, ints, h.high)) in
    cast-fits (square_lane z) low high

abs-square : (z : ℤ) → IsSquare z → pos (nat_abs (square_lane z)) ≡ z
abs-square z h =
    let e = square-is z h in
    let low : pos 0 ≤ℤ square_lane z = rw e h.low in
    abs-is (square_lane z) low ∙ e

squares-fit : (m n : ℕ) (a b : ℤ) → pos m ≡ a → pos n ≡ b → IsSquare a → IsSquare b → Fits w32 (m + n)
squares-fit m n a b d e h k = record { fits = omega (arith, ints, h.high, k.high) }

pub square_casts_fit : (p : List ℤ) → length p ≡ 8 → AreSquares p → Each1 (Asks1 (cast signed unsigned w32) (s_int w32)) (bits p)
square_casts_fit p long h =
    let z = number_at p in
    subst (λ (l : List ℤ). Each1 (Asks1 (cast signed unsigned w32) (s_int w32)) (bits l)) (sym (eight_of p long))
    (square-cast (z 0) (h 0), (square-cast (z 1) (h 1), (square-cast (z 2) (h 2), (square-cast (z 3) (h 3), (square-cast (z 4) (h 4), (square-cast (z 5) (h 5), (square-cast (z 6) (h 6), (square-cast (z 7) (h 7), tt))))))))

two-fit : (a b : ℤ) → IsSquare a → IsSquare b → Fits w32 (nat_abs (square_lane a) + nat_abs (square_lane b))
two-fit a b h k = squares-fit (nat_abs (square_lane a)) (nat_abs (square_lane b)) a b (abs-square a h) (abs-square b k) h k

two-are : (a b : ℤ) → IsSquare a → IsSquare b → pos (nat_abs (square_lane a) + nat_abs (square_lane b)) ≡ a +ℤ b
two-are a b h k = pos-sum (nat_abs (square_lane a)) (nat_abs (square_lane b)) a b (abs-square a h) (abs-square b k)

pub square_pairs_fit : (p : List ℤ) → length p ≡ 8 → AreSquares p → Each2 (Asks2 (add unsigned) (s_int w32) (s_int w32)) (evens (unsigned_lanes (bits p))) (odds (unsigned_lanes (bits p)))
square_pairs_fit p long h =
    let z = number_at p in
    subst (λ (l : List ℤ). Each2 (Asks2 (add unsigned) (s_int w32) (s_int w32)) (evens (unsigned_lanes (bits l))) (odds (unsigned_lanes (bits l)))) (sym (eight_of p long))
    (two-fit (z 0) (z 1) (h 0) (h 1), (two-fit (z 2) (z 3) (h 2) (h 3), (two-fit (z 4) (z 5) (h 4) (h 5), (two-fit (z 6) (z 7) (h 6) (h 7), tt))))

pub square_pairs_are : (p : List ℤ) → length p ≡ 8 → AreSquares p → map pos (zip2 (act2 (add unsigned) (s_int w32) (s_int w32) (s_int w32)) (evens (unsigned_lanes (bits p))) (odds (unsigned_lanes (bits p)))) ≡ four (λ n. number_at p (2 * n) +ℤ number_at p (2 * n + 1))
square_pairs_are p long h =
    let z = number_at p in
    let e0 = two-are (z 0) (z 1) (h 0) (h 1) in
    let e1 = two-are (z 2) (z 3) (h 2) (h 3) in
    let e2 = two-are (z 4) (z 5) (h 4) (h 5) in
    let e3 = two-are (z 6) (z 7) (h 6) (h 7) in
    ap (λ (l : List ℤ). map pos (zip2 (act2 (add unsigned) (s_int w32) (s_int w32) (s_int w32)) (evens (unsigned_lanes (bits l))) (odds (unsigned_lanes (bits l))))) (eight_of p long)
    ∙ (λ i. e0 i ∷ e1 i ∷ e2 i ∷ e3 i ∷ [])

-- the first numbers of neighbours whose second is 0, and 2^15 more
abbrev pub neighbours : List ℤ → List ℕ
neighbours p = zip2 (act2 (add signed) (s_int w32) (s_int w32) (s_int w32)) (evens (bits p)) (odds (bits p))

abbrev pub raised : List ℤ → List ℕ
raised p = zip2 (act2 (add signed) (s_int w32) (s_int w32) (s_int w32)) (neighbours p) (replicate 4 32768)

abbrev sum_lane : ℤ → ℤ → ℤ
sum_lane a b = to_z w32 (of_z w32 a) +ℤ to_z w32 (of_z w32 b)

abbrev raised_lane : ℤ → ℤ → ℤ
raised_lane a b = to_z w32 (of_z w32 (sum_lane a b)) +ℤ pos 32768

part-fits : (x a b : ℤ) → FitsSigned w16 x → a ≡ x → b ≡ pos 0 → FitsSigned w32 (sum_lane a b)
part-fits x a b h d e = rw (d, e) (omega (arith, ints))

raise-fits : (x a b : ℤ) → FitsSigned w16 x → a ≡ x → b ≡ pos 0 → FitsSigned w32 (raised_lane a b)
raise-fits x a b h d e = rw (d, e) (omega (arith, ints))

raised-is : (x a b : ℤ) → FitsSigned w16 x → a ≡ x → b ≡ pos 0 → to_z w32 (of_z w32 (raised_lane a b)) ≡ x +ℤ pos 32768
raised-is x a b h d e = rw (d, e) (omega (arith, ints))

raised-cast : (x a b : ℤ) → FitsSigned w16 x → a ≡ x → b ≡ pos 0 → T (non_neg (to_z w32 (of_z w32 (raised_lane a b)))) × Fits w32 (nat_abs (to_z w32 (of_z w32 (raised_lane a b))))
raised-cast x a b h d e =
    let is = raised-is x a b h d e in
    let low : pos 0 ≤ℤ to_z w32 (of_z w32 (raised_lane a b)) = rw is (omega (arith, ints)) in
    let high : to_z w32 (of_z w32 (raised_lane a b)) ≤ℤ pos 4294967295 = rw is (omega (arith, ints)) in
    cast-fits (to_z w32 (of_z w32 (raised_lane a b))) low high

abs-raised : (x a b : ℤ) → FitsSigned w16 x → a ≡ x → b ≡ pos 0 → pos (nat_abs (to_z w32 (of_z w32 (raised_lane a b)))) ≡ x +ℤ pos 32768
abs-raised x a b h d e =
    let is = raised-is x a b h d e in
    let low : pos 0 ≤ℤ to_z w32 (of_z w32 (raised_lane a b)) = rw is (omega (arith, ints)) in
    abs-is (to_z w32 (of_z w32 (raised_lane a b))) low ∙ is

-- the products with 1 and 0 in turn
abbrev pub one_and_zero : List ℤ
one_and_zero = pos 1 ∷ pos 0 ∷ pos 1 ∷ pos 0 ∷ pos 1 ∷ pos 0 ∷ pos 1 ∷ pos 0 ∷ []

pub ones_of_16_bits : AreOf16Bits one_and_zero
ones_of_16_bits = eight-each (FitsSigned w16) (number_at one_and_zero) (omega (arith, ints)) (omega (arith, ints)) (omega (arith, ints)) (omega (arith, ints)) (omega (arith, ints)) (omega (arith, ints)) (omega (arith, ints)) (omega (arith, ints)) (omega (arith, ints))

pub record ArePartsOf (x p : List ℤ) : Type 0 where
  pub long : length p ≡ 8
  pub first : (n : ℕ) → n < 4 → number_at p (2 * n) ≡ number_at x (2 * n)
  pub second : (n : ℕ) → n < 4 → number_at p (2 * n + 1) ≡ pos 0

pub parts_of : (x p : List ℤ) → p ≡ eight (λ n. number_at x n *ℤ number_at one_and_zero n) → ArePartsOf x p
parts_of x p is = record {
  long = ap length is;
  first = at_four (λ n. number_at p (2 * n) ≡ number_at x (2 * n))
      (ap (λ l. number_at l 0) is ∙ *ℤ_one (number_at x 0)) (ap (λ l. number_at l 2) is ∙ *ℤ_one (number_at x 2))
      (ap (λ l. number_at l 4) is ∙ *ℤ_one (number_at x 4)) (ap (λ l. number_at l 6) is ∙ *ℤ_one (number_at x 6));
  second = at_four (λ n. number_at p (2 * n + 1) ≡ pos 0)
      (ap (λ l. number_at l 1) is ∙ *ℤ-zero (number_at x 1)) (ap (λ l. number_at l 3) is ∙ *ℤ-zero (number_at x 3))
      (ap (λ l. number_at l 5) is ∙ *ℤ-zero (number_at x 5)) (ap (λ l. number_at l 7) is ∙ *ℤ-zero (number_at x 7));
}

pub part_sums_fit : (x p : List ℤ) → AreOf16Bits x → ArePartsOf x p → Each2 (Asks2 (add signed) (s_int w32) (s_int w32)) (evens (bits p)) (odds (bits p))
part_sums_fit x p h parts =
    let z = number_at p in
    let y = number_at x in
    let a = parts.first in
    let b = parts.second in
    subst (λ (l : List ℤ). Each2 (Asks2 (add signed) (s_int w32) (s_int w32)) (evens (bits l)) (odds (bits l))) (sym (eight_of p parts.long)) (
      part-fits (y 0) (z 0) (z 1) (h 0) (a 0 (omega arith)) (b 0 (omega arith)),
      (
        part-fits (y 2) (z 2) (z 3) (h 2) (a 1 (omega arith)) (b 1 (omega arith)),
        (part-fits (y 4) (z 4) (z 5) (h 4) (a 2 (omega arith)) (b 2 (omega arith)), (part-fits (y 6) (z 6) (z 7) (h 6) (a 3 (omega arith)) (b 3 (omega arith)), tt)),
      ),
    )

pub raises_fit : (x p : List ℤ) → AreOf16Bits x → ArePartsOf x p → Each2 (Asks2 (add signed) (s_int w32) (s_int w32)) (neighbours p) (replicate 4 32768)
raises_fit x p h parts =
    let z = number_at p in
    let y = number_at x in
    let a = parts.first in
    let b = parts.second in
    subst (λ (l : List ℤ). Each2 (Asks2 (add signed) (s_int w32) (s_int w32)) (neighbours l) (replicate 4 32768)) (sym (eight_of p parts.long)) (
      raise-fits (y 0) (z 0) (z 1) (h 0) (a 0 (omega arith)) (b 0 (omega arith)),
      (
        raise-fits (y 2) (z 2) (z 3) (h 2) (a 1 (omega arith)) (b 1 (omega arith)),
        (raise-fits (y 4) (z 4) (z 5) (h 4) (a 2 (omega arith)) (b 2 (omega arith)), (raise-fits (y 6) (z 6) (z 7) (h 6) (a 3 (omega arith)) (b 3 (omega arith)), tt)),
      ),
    )

pub raised_casts_fit : (x p : List ℤ) → AreOf16Bits x → ArePartsOf x p → Each1 (Asks1 (cast signed unsigned w32) (s_int w32)) (raised p)
raised_casts_fit x p h parts =
    let z = number_at p in
    let y = number_at x in
    let a = parts.first in
    let b = parts.second in
    subst (λ (l : List ℤ). Each1 (Asks1 (cast signed unsigned w32) (s_int w32)) (raised l)) (sym (eight_of p parts.long)) (
      raised-cast (y 0) (z 0) (z 1) (h 0) (a 0 (omega arith)) (b 0 (omega arith)),
      (
        raised-cast (y 2) (z 2) (z 3) (h 2) (a 1 (omega arith)) (b 1 (omega arith)),
        (raised-cast (y 4) (z 4) (z 5) (h 4) (a 2 (omega arith)) (b 2 (omega arith)), (raised-cast (y 6) (z 6) (z 7) (h 6) (a 3 (omega arith)) (b 3 (omega arith)), tt)),
      ),
    )

pub raised_are : (x p : List ℤ) → AreOf16Bits x → ArePartsOf x p → map pos (unsigned_lanes (raised p)) ≡ four (λ n. number_at x (2 * n) +ℤ pos 32768)
raised_are x p h parts =
    let z = number_at p in
    let y = number_at x in
    let a = parts.first in
    let b = parts.second in
    let e0 = abs-raised (y 0) (z 0) (z 1) (h 0) (a 0 (omega arith)) (b 0 (omega arith)) in
    let e1 = abs-raised (y 2) (z 2) (z 3) (h 2) (a 1 (omega arith)) (b 1 (omega arith)) in
    let e2 = abs-raised (y 4) (z 4) (z 5) (h 4) (a 2 (omega arith)) (b 2 (omega arith)) in
    let e3 = abs-raised (y 6) (z 6) (z 7) (h 6) (a 3 (omega arith)) (b 3 (omega arith)) in
    ap (λ (l : List ℤ). map pos (unsigned_lanes (raised l))) (eight_of p parts.long)
    ∙ (λ i. e0 i ∷ e1 i ∷ e2 i ∷ e3 i ∷ [])
