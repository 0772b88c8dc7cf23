-- The parts of the product of a sample with the conjugate of another, and squares, in four lanes.
use Rattle.std.proofs.Common.{◌≡◌, ℕ, zero, suc, ◌+◌, ◌*◌, ◌^◌, ◌<◌, ◌≤◌, List, [], ◌∷◌, map, ℤ, pos, negsuc, ◌+ℤ◌, ◌-ℤ◌, ◌*ℤ◌, ◌≤ℤ◌, to_z, of_z, length, ◌++◌, ◌-◌, ◌%◌, bit_and, bit_xor, refl, sym, ap, ◌∙◌, arith}
use Rattle.std.specs.Prelude.{unsigned_abs, FitsSigned}
use Rattle.std.proofs.lemmas.Int.{ints, to_z-of_z}
use Rattle.std.proofs.lemmas.Nat.{and_mask}
use Rattle.std.specs.Int.Bits.{xor_add_and, xor_zero_r}
use Rattle.std.specs.Simd.Lanes.{zip2, pick_l}
use borrow.Rule.Simd.Lanes.{act2}
use borrow.Table.Row.{s_int}
use mir.Syntax.{w16, bit_xor as xor_lanes}
use Rattle.integer_laws.proofs.Products.{*ℤ-neg_ℤ, *ℤ--ℤ}
use Rattle.fixed_complex.specs.declared.Sample.{Sample}
use Rattle.fixed_complex.specs.Numbers.{NumbersWithin, number_at}
use Rattle.fixed_complex.specs.Pairs.{IsWithin, conjugate, times}
use Rattle.fixed_complex.specs.Samples.{pair_of}
use Rattle.fixed_complex.proofs.PairSizes.{within-conjugate, within-times}
use Rattle.lane_kernels.specs.Kernels.{power_of, product_of}
use Rattle.lane_kernels.specs.Lanes.{AreOf16Bits, AreProducts, AreSquares, IsProduct, IsSquare, components_of, eight, four, turned_of}
use Rattle.lane_kernels.proofs.Bounds.{product-bounds, size-le, square-bounds}
use Rattle.lane_kernels.proofs.LaneSums.{eight_of, power-le}
use Rattle.lane_kernels.proofs.Totals.{eight-each}
use Rattle.integer_laws.proofs.FewPlaces.{at_four}
use Rattle.lane_kernels.proofs.FourLanes.{four-each, four-same}

real_part : (a b : Sample) → a.i *ℤ b.i +ℤ a.q *ℤ b.q ≡ (product_of a b).re
unfolding times
real_part a b = omega (arith, ints, *ℤ-neg_ℤ a.q b.q)

imaginary_part : (a b : Sample) → a.i *ℤ (negsuc 0 -ℤ b.q) +ℤ a.q *ℤ b.i +ℤ a.i ≡ (product_of a b).im
unfolding times
imaginary_part a b = omega (arith, ints, *ℤ-neg_ℤ a.i b.q, *ℤ--ℤ a.i (negsuc 0) b.q)

-- a sample's components have 16 bits
pub record IsOf16Bits (a : Sample) : Type 0 where
  pub i : FitsSigned w16 a.i
  pub q : FitsSigned w16 a.q

pub samples_of : (x : List ℤ) (f : ℕ → Sample) → x ≡ components_of f → AreOf16Bits x → (n : ℕ) → n < 4 → IsOf16Bits (f n)
samples_of x f is h = at_four (λ n. IsOf16Bits (f n))
    (record { i = rw is at (h 0); q = rw is at (h 1) }) (record { i = rw is at (h 2); q = rw is at (h 3) })
    (record { i = rw is at (h 4); q = rw is at (h 5) }) (record { i = rw is at (h 6); q = rw is at (h 7) })

imaginary-le : (a b : Sample) → IsOf16Bits a → IsOf16Bits b → (product_of a b).im ≤ℤ pos 2147450880
unfolding times
imaginary-le a b h k =
    let first = product-bounds a.q b.i h.q k.i in
    let second = product-bounds a.i b.q h.i k.q in
    omega (arith, ints, first.high, second.low, *ℤ-neg_ℤ a.i b.q)

-- products of components
pub are_products : (x y p : List ℤ) → p ≡ eight (λ n. number_at x n *ℤ number_at y n) → AreOf16Bits x → AreOf16Bits y → AreProducts p
are_products x y p is h k =
    let one = λ (n : ℕ). product-bounds (number_at x n) (number_at y n) (h n) (k n) in
    rw is (eight-each IsProduct (λ n. number_at x n *ℤ number_at y n) (one 0) (one 1) (one 2) (one 3) (one 4) (one 5) (one 6) (one 7) (record { low = omega (arith, ints); high = omega (arith, ints) }))

pub are_squares : (x p : List ℤ) → p ≡ eight (λ n. number_at x n *ℤ number_at x n) → AreOf16Bits x → AreSquares p
are_squares x p is h =
    let one = λ (n : ℕ). square-bounds (number_at x n) (h n) in
    rw is (eight-each IsSquare (λ n. number_at x n *ℤ number_at x n) (one 0) (one 1) (one 2) (one 3) (one 4) (one 5) (one 6) (one 7) (record { low = omega (arith, ints); high = omega (arith, ints) }))

pub four_powers : (x p r : List ℤ) (f : ℕ → Sample) → x ≡ components_of f → p ≡ eight (λ n. number_at x n *ℤ number_at x n) → r ≡ four (λ n. number_at p (2 * n) +ℤ number_at p (2 * n + 1)) → r ≡ four (λ n. power_of (f n))
four_powers x p r f x_is p_is r_is = rw (r_is, p_is, x_is) refl

pub powers_within : (r : List ℤ) (f : ℕ → Sample) → r ≡ four (λ n. power_of (f n)) → ((n : ℕ) → n < 4 → IsOf16Bits (f n)) → NumbersWithin (2 ^ 31) r
powers_within r f is h =
    let one = λ (n : ℕ) (below : n < 4). power-le (f n).i (f n).q (size-le (f n).i (h n below).i) (size-le (f n).q (h n below).q) in
    rw is (four-each (λ z. unsigned_abs z ≤ 2 ^ 31) (λ n. power_of (f n)) (one 0 (omega arith)) (one 1 (omega arith)) (one 2 (omega arith)) (one 3 (omega arith)) (omega arith))

-- products of samples, and their parts with a bias
pub products_within : (f g : ℕ → Sample) → ((n : ℕ) → n < 4 → IsOf16Bits (f n)) → ((n : ℕ) → n < 4 → IsOf16Bits (g n)) → (n : ℕ) → n < 4 → IsWithin (2 ^ 31) (product_of (f n) (g n))
products_within f g h k n below =
    let a = h n below in
    let b = k n below in
    let first : IsWithin (2 ^ 15) (pair_of (f n)) = record { re = size-le (f n).i a.i; im = size-le (f n).q a.q } in
    let second : IsWithin (2 ^ 15) (pair_of (g n)) = record { re = size-le (g n).i b.i; im = size-le (g n).q b.q } in
    within-times (2 ^ 15) (2 ^ 15) (pair_of (f n)) (conjugate (pair_of (g n))) first (within-conjugate (2 ^ 15) (pair_of (g n)) second)

pub biased_within : (r : List ℤ) (f : ℕ → ℤ) (bias : ℕ) → bias ≤ 2147516414 → r ≡ four (λ n. f n +ℤ pos bias) → ((n : ℕ) → n < 4 → unsigned_abs (f n) ≤ 2 ^ 31) → NumbersWithin (2 ^ 33) r
biased_within r f bias small is h =
    let one = λ (n : ℕ) (below : n < 4). let size = h n below in let here : unsigned_abs (f n +ℤ pos bias) ≤ 2 ^ 33 = omega (arith, ints) in here in
    rw is (four-each (λ z. unsigned_abs z ≤ 2 ^ 33) (λ n. f n +ℤ pos bias) (one 0 (omega arith)) (one 1 (omega arith)) (one 2 (omega arith)) (one 3 (omega arith)) (omega arith))

pub four_real_parts : (x y p r : List ℤ) (f g : ℕ → Sample) → x ≡ components_of f → y ≡ components_of g → p ≡ eight (λ n. number_at x n *ℤ number_at y n) → r ≡ four (λ n. number_at p (2 * n) +ℤ number_at p (2 * n + 1) +ℤ pos 2147483646) → r ≡ four (λ n. (product_of (f n) (g n)).re +ℤ pos 2147483646)
four_real_parts x y p r f g x_is y_is p_is r_is =
    let plain : r ≡ four (λ n. (f n).i *ℤ (g n).i +ℤ (f n).q *ℤ (g n).q +ℤ pos 2147483646) = rw (r_is, p_is, x_is, y_is) refl in
    plain ∙ four-same (λ n. (f n).i *ℤ (g n).i +ℤ (f n).q *ℤ (g n).q +ℤ pos 2147483646) (λ n. (product_of (f n) (g n)).re +ℤ pos 2147483646)
    (λ n _. let e = real_part (f n) (g n) in rw e refl)

-- turned components
pub turned_of_16_bits : (y : List ℤ) → AreOf16Bits y → AreOf16Bits (turned_of (number_at y))
turned_of_16_bits y h =
    let less = λ (z : ℤ) (fits : FitsSigned w16 z). let out : FitsSigned w16 (negsuc 0 -ℤ z) = omega (arith, ints) in out in
    let z = number_at y in
    eight-each (FitsSigned w16) (number_at (turned_of z)) (less (z 1) (h 1)) (h 0) (less (z 3) (h 3)) (h 2) (less (z 5) (h 5)) (h 4) (less (z 7) (h 7)) (h 6) (omega (arith, ints))

-- the biased sums of products with them, before I is added
abbrev pub crossed : (ℕ → Sample) → (ℕ → Sample) → ℕ → ℤ
crossed f g n = (f n).i *ℤ (negsuc 0 -ℤ (g n).q) +ℤ (f n).q *ℤ (g n).i +ℤ pos 2147483646

pub four_crossed : (x y t p r : List ℤ) (f g : ℕ → Sample) → x ≡ components_of f → y ≡ components_of g → t ≡ turned_of (number_at y) → p ≡ eight (λ n. number_at x n *ℤ number_at t n) → r ≡ four (λ n. number_at p (2 * n) +ℤ number_at p (2 * n + 1) +ℤ pos 2147483646) → r ≡ four (crossed f g)
four_crossed x y t p r f g x_is y_is t_is p_is r_is = rw (r_is, p_is, t_is, x_is, y_is) refl

pub four_raised : (x r : List ℤ) (f : ℕ → Sample) → x ≡ components_of f → r ≡ four (λ n. number_at x (2 * n) +ℤ pos 32768) → r ≡ four (λ n. (f n).i +ℤ pos 32768)
four_raised x r f x_is r_is = rw (r_is, x_is) refl

-- xor with ones is the complement
complement_bits : (m : ℕ) → m < 65536 → bit_xor m 65535 ≡ 65535 - m
complement_bits m h =
    let kept : bit_and m 65535 ≡ m % 65536 = and_mask m 16 in
    let whole = xor_add_and m 65535 in
    omega arith

less : (n : ℕ) → negsuc 0 -ℤ pos n ≡ negsuc n
less zero = refl
less (suc n) = ap negsuc (omega arith)

of_positive : (n m : ℕ) → n < 32768 → m ≡ 65535 - n → to_z w16 m ≡ negsuc 0 -ℤ pos n
of_positive n m h e =
    let fits : FitsSigned w16 (negsuc n) = omega (arith, ints) in
    let is : m ≡ of_z w16 (negsuc n) = omega arith in
    ap (to_z w16) is ∙ (to_z-of_z w16 (negsuc n) fits ∙ sym (less n))

of_negative : (n m : ℕ) → n < 32768 → m ≡ n → to_z w16 m ≡ negsuc 0 -ℤ negsuc n
of_negative n m h e = omega (arith, ints)

complement : (z : ℤ) → FitsSigned w16 z → to_z w16 (bit_xor (of_z w16 z) 65535) ≡ negsuc 0 -ℤ z
complement (pos n) h =
    let below : n < 32768 = omega (arith, ints) in
    of_positive n (bit_xor n 65535) below (complement_bits n (omega arith))
complement (negsuc n) h =
    let below : n < 32768 = omega (arith, ints) in
    let m = 65536 - suc n in
    let is : bit_xor (65536 - suc n) 65535 ≡ n = complement_bits (65536 - suc n) (omega arith) ∙ omega arith in
    of_negative n (bit_xor (65536 - suc n) 65535) below is

unturned : (z : ℤ) → FitsSigned w16 z → to_z w16 (bit_xor (of_z w16 z) 0) ≡ z
unturned z h = rw (xor_zero_r (of_z w16 z)) (to_z-of_z w16 z h)

abbrev ones : List ℕ
ones = 65535 ∷ 0 ∷ 65535 ∷ 0 ∷ 65535 ∷ 0 ∷ 65535 ∷ 0 ∷ []

abbrev swapped : List ℤ → List ℕ
swapped y = pick_l 0 (map (of_z w16) y ++ map (of_z w16) y) (1 ∷ 0 ∷ 3 ∷ 2 ∷ 5 ∷ 4 ∷ 7 ∷ 6 ∷ [])

pub turned_are : (y : List ℤ) → length y ≡ 8 → AreOf16Bits y → map (to_z w16) (zip2 (act2 xor_lanes (s_int w16) (s_int w16) (s_int w16)) (swapped y) ones) ≡ turned_of (number_at y)
turned_are y long h =
    let z = number_at y in
    let e0 = complement (z 1) (h 1) in let e1 = unturned (z 0) (h 0) in
    let e2 = complement (z 3) (h 3) in let e3 = unturned (z 2) (h 2) in
    let e4 = complement (z 5) (h 5) in let e5 = unturned (z 4) (h 4) in
    let e6 = complement (z 7) (h 7) in let e7 = unturned (z 6) (h 6) in
    ap (λ (l : List ℤ). map (to_z w16) (zip2 (act2 xor_lanes (s_int w16) (s_int w16) (s_int w16)) (swapped l) ones)) (eight_of y long)
    ∙ (λ i. e0 i ∷ e1 i ∷ e2 i ∷ e3 i ∷ e4 i ∷ e5 i ∷ e6 i ∷ e7 i ∷ [])

pub crossed-raised : (f g : ℕ → Sample) (n : ℕ) → crossed f g n +ℤ ((f n).i +ℤ pos 32768) ≡ (product_of (f n) (g n)).im +ℤ pos 2147516414
crossed-raised f g n = let e = imaginary_part (f n) (g n) in rw (← e) (omega (arith, ints))

pub crossed-le : (f g : ℕ → Sample) (n : ℕ) → IsOf16Bits (f n) → IsOf16Bits (g n) → (crossed f g n +ℤ ((f n).i +ℤ pos 32768)) ≤ℤ pos 4294967295
crossed-le f g n h k = rw (crossed-raised f g n) (omega (arith, ints, imaginary-le (f n) (g n) h k))
