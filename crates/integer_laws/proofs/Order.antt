-- The order of whole numbers, with products and squares.
use Rattle.std.proofs.Common.{◌≡◌, ℕ, ◌+◌, ◌*◌, ◌<◌, ◌≤◌, refl, ap, arith, mul-le-mul, mul-le-mul_left, le_of_mul-le-mul_right}
use Rattle.std.specs.Prelude.{ℤ, pos, negsuc, ◌+ℤ◌, ◌-ℤ◌, ◌*ℤ◌, ◌≤ℤ◌, unsigned_abs}
use Rattle.std.proofs.lemmas.Int.{ints, unsigned_abs-mul}
use borrow.Author.Differences.{up, down}
use Rattle.integer_laws.proofs.Squares.{square-le, le_of_square-le}

-- the order of two naturals
pub pos-le : (a b : ℕ) → a ≤ b → pos a ≤ℤ pos b
pos-le a b h = omega (arith, ints)

pub le_of_pos-le : (a b : ℕ) → pos a ≤ℤ pos b → a ≤ b
le_of_pos-le a b h = omega (arith, ints)

pub ≤ℤ_trans : (a b c : ℤ) → a ≤ℤ b → b ≤ℤ c → a ≤ℤ c
≤ℤ_trans a b c h k = omega (arith, ints)

pub ≤ℤ_antisymm : (a b : ℤ) → a ≤ℤ b → b ≤ℤ a → a ≡ b
≤ℤ_antisymm a b h k = omega (arith, ints)

-- sums keep the order
pub +ℤ-≤ℤ : (a b c d : ℤ) → a ≤ℤ b → c ≤ℤ d → (a +ℤ c) ≤ℤ (b +ℤ d)
+ℤ-≤ℤ a b c d h k = omega (arith, ints)

-- a square is the square of the size
pub square_is : (x : ℤ) → x *ℤ x ≡ pos (unsigned_abs x * unsigned_abs x)
square_is (pos n) = refl
square_is (negsuc n) = refl

-- so it is not negative
pub square_not_negative : (x : ℤ) → pos 0 ≤ℤ (x *ℤ x)
square_not_negative x = rw square_is (pos-le 0 (unsigned_abs x * unsigned_abs x) (omega arith))

-- a square within that of b is that of a number of size at most b
pub unsigned_abs-le : (x : ℤ) (b : ℕ) → (x *ℤ x) ≤ℤ pos (b * b) → unsigned_abs x ≤ b
unsigned_abs-le x b h = le_of_square-le (unsigned_abs x) b (le_of_pos-le (unsigned_abs x * unsigned_abs x) (b * b) (rw square_is at h))

-- and back
pub square_within : (x : ℤ) (b : ℕ) → unsigned_abs x ≤ b → (x *ℤ x) ≤ℤ pos (b * b)
square_within x b h = rw square_is (pos-le (unsigned_abs x * unsigned_abs x) (b * b) (square-le (unsigned_abs x) b h))

-- a sum with another square is no less
pub square-le_sum : (x y : ℤ) → (x *ℤ x) ≤ℤ (x *ℤ x +ℤ y *ℤ y)
square-le_sum x y = omega (arith, ints, square_not_negative y)

-- an order by the difference, which the ring law can give as a sum of squares or of products
pub le_of_difference : (a b d : ℤ) → b -ℤ a ≡ d → pos 0 ≤ℤ d → a ≤ℤ b
le_of_difference a b d e h = omega (arith, ints, ap (λ s. s) e)

-- products with a natural number keep the order
pub pos-*ℤ-≤ℤ : (n : ℕ) (a b : ℤ) → a ≤ℤ b → (pos n *ℤ a) ≤ℤ (pos n *ℤ b)
pos-*ℤ-≤ℤ n a b h =
    let parts : up a + down b ≤ up b + down a = omega (arith, ints) in
    omega (arith, ints, mul-le-mul_left n parts)

-- and with one above 0 they show it
pub ≤ℤ_of_pos-*ℤ : (n : ℕ) (a b : ℤ) → 0 < n → (pos n *ℤ a) ≤ℤ (pos n *ℤ b) → a ≤ℤ b
≤ℤ_of_pos-*ℤ n a b above h =
    let parts : (up a + down b) * n ≤ (up b + down a) * n = omega (arith, ints) in
    let whole : up a + down b ≤ up b + down a = le_of_mul-le-mul_right parts above in
    omega (arith, ints)

-- a sum and a product of numbers that are not negative
pub sum_not_negative : (a b : ℤ) → pos 0 ≤ℤ a → pos 0 ≤ℤ b → pos 0 ≤ℤ (a +ℤ b)
sum_not_negative a b h k = omega (arith, ints)

pub product_not_negative : (a b : ℤ) → pos 0 ≤ℤ a → pos 0 ≤ℤ b → pos 0 ≤ℤ (a *ℤ b)
product_not_negative (pos m) (pos n) h k = pos-le 0 (m * n) (omega arith)
product_not_negative (pos m) (negsuc n) h k = absurd (omega (arith, ints))
product_not_negative (negsuc m) b h k = absurd (omega (arith, ints))

-- products with a number that is not negative keep the order
pub *ℤ-≤ℤ : (c a b : ℤ) → pos 0 ≤ℤ c → a ≤ℤ b → (c *ℤ a) ≤ℤ (c *ℤ b)
*ℤ-≤ℤ (pos n) a b above h = pos-*ℤ-≤ℤ n a b h
*ℤ-≤ℤ (negsuc n) a b above h = absurd (omega (arith, ints))

-- the size of a sum, a difference and a product
pub unsigned_abs-sum : (x y : ℤ) → unsigned_abs (x +ℤ y) ≤ unsigned_abs x + unsigned_abs y
unsigned_abs-sum x y = omega (arith, ints)

pub unsigned_abs-difference : (x y : ℤ) → unsigned_abs (x -ℤ y) ≤ unsigned_abs x + unsigned_abs y
unsigned_abs-difference x y = omega (arith, ints)

pub unsigned_abs-product : (x y : ℤ) (a b : ℕ) → unsigned_abs x ≤ a → unsigned_abs y ≤ b → unsigned_abs (x *ℤ y) ≤ a * b
unsigned_abs-product x y a b h k = rw (unsigned_abs-mul x y) (mul-le-mul h k)
