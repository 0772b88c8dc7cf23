-- Eight lanes, and numbers of 64 bits as the code keeps them.
use Rattle.std.proofs.Common.{◌≡◌, ℕ, ◌+◌, ◌^◌, ◌<◌, ◌≤◌, List, [], ◌∷◌, length, Bool, true, false, cond, ℤ, pos, ◌+ℤ◌, ◌*ℤ◌, to_z, of_z, w64, refl, ap, ◌∙◌, arith}
use Rattle.std.specs.Prelude.{unsigned_abs}
use Rattle.std.specs.Simd.Lanes.{zip2}
use Rattle.std.proofs.lemmas.Int.{ints, to_z-of_z, fits_signed_from_abs, unsigned_abs-mul}
use mir.Syntax.{Width}
use Rattle.lane_kernels.specs.Lanes.{eight}
use Rattle.fixed_complex.specs.Numbers.{number_at}
use Rattle.std.proofs.Math.Nat.{mul-le-mul}

-- a list of eight numbers is one number for each lane
pub eight_of : (xs : List ℤ) → length xs ≡ 8 → xs ≡ eight (number_at xs)
eight_of [] h = absurd (omega arith)
eight_of (a ∷ []) h = absurd (omega arith)
eight_of (a ∷ b ∷ []) h = absurd (omega arith)
eight_of (a ∷ b ∷ c ∷ []) h = absurd (omega arith)
eight_of (a ∷ b ∷ c ∷ d ∷ []) h = absurd (omega arith)
eight_of (a ∷ b ∷ c ∷ d ∷ e ∷ []) h = absurd (omega arith)
eight_of (a ∷ b ∷ c ∷ d ∷ e ∷ f ∷ []) h = absurd (omega arith)
eight_of (a ∷ b ∷ c ∷ d ∷ e ∷ f ∷ g ∷ []) h = absurd (omega arith)
eight_of (a ∷ b ∷ c ∷ d ∷ e ∷ f ∷ g ∷ k ∷ []) h = refl
eight_of (a ∷ b ∷ c ∷ d ∷ e ∷ f ∷ g ∷ k ∷ l ∷ r) h = absurd (omega arith)

-- what is made of eight and eight numbers, lane by lane
pub eight_by : (f : ℤ → ℤ → ℤ) (x y : List ℤ) → length x ≡ 8 → length y ≡ 8 → zip2 f x y ≡ eight (λ n. f (number_at x n) (number_at y n))
eight_by f x y h k =
    ap (λ l. zip2 f l y) (eight_of x h) ∙ ap (λ l. zip2 f (eight (number_at x)) l) (eight_of y k)

-- the number of bits that are chosen is the number chosen
pub to_z-cond : (w : Width) (t : Bool) (m n : ℕ) → to_z w (cond t m n) ≡ cond t (to_z w m) (to_z w n)
to_z-cond w true m n = refl
to_z-cond w false m n = refl

-- a number of 64 bits, as a lane keeps it
abbrev pub kept : ℤ → ℤ
kept z = to_z w64 (of_z w64 z)

pub kept-is : (z : ℤ) (bound : ℕ) → unsigned_abs z ≤ bound → bound < 2 ^ 63 → kept z ≡ z
kept-is z bound h small = to_z-of_z w64 z (fits_signed_from_abs w64 z (omega arith))

-- the sum of the numbers of two words
pub pos-sum : (m n : ℕ) (a b : ℤ) → pos m ≡ a → pos n ≡ b → pos (m + n) ≡ a +ℤ b
pos-sum m n a b d e = omega (arith, ints)

-- a product of 16-bit numbers
pub product-le : (a b : ℤ) → unsigned_abs a ≤ 2 ^ 15 → unsigned_abs b ≤ 2 ^ 15 → unsigned_abs (a *ℤ b) ≤ 2 ^ 30
product-le a b h k = rw unsigned_abs-mul (mul-le-mul h k)

product_kept : (a b : ℤ) → unsigned_abs a ≤ 2 ^ 15 → unsigned_abs b ≤ 2 ^ 15 → kept a *ℤ kept b ≡ a *ℤ b
product_kept a b h k = rw (kept-is a (2 ^ 15) h (omega arith), kept-is b (2 ^ 15) k (omega arith)) refl

-- the square of a sample's size
pub power-le : (i q : ℤ) → unsigned_abs i ≤ 2 ^ 15 → unsigned_abs q ≤ 2 ^ 15 → unsigned_abs (i *ℤ i +ℤ q *ℤ q) ≤ 2 ^ 31
power-le i q h k = omega (arith, ints, product-le i i h h, product-le q q k k)

pub power_kept : (a b i q : ℤ) → a ≡ i → b ≡ q → unsigned_abs i ≤ 2 ^ 15 → unsigned_abs q ≤ 2 ^ 15 → kept (kept (kept a *ℤ kept a) +ℤ kept (kept b *ℤ kept b)) ≡ i *ℤ i +ℤ q *ℤ q
power_kept a b i q a_is b_is h k =
    rw (a_is, b_is, product_kept i i h h, product_kept q q k k, kept-is (i *ℤ i) (2 ^ 30) (product-le i i h h) (omega arith), kept-is (q *ℤ q) (2 ^ 30) (product-le q q k k) (omega arith))
    (kept-is (i *ℤ i +ℤ q *ℤ q) (2 ^ 31) (power-le i q h k) (omega arith))
