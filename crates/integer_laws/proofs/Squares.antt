-- Squares of natural numbers.
use Rattle.std.proofs.Common.{◌≡◌, ℕ, ◌+◌, ◌-◌, ◌*◌, ◌≤◌, inl, inr, arith, mul-le-mul}
use Rattle.std.proofs.lemmas.Bool.{cases_lt}

-- squares grow
pub square-le : (a b : ℕ) → a ≤ b → a * a ≤ b * b
square-le a b h = mul-le-mul h h

-- and so do the numbers with their squares
pub le_of_square-le : (a b : ℕ) → a * a ≤ b * b → a ≤ b
le_of_square-le a b h =
    elim (cases_lt b a) [
      | inl below ↦ let more : (b + 1) * (b + 1) ≤ a * a = square-le (b + 1) a (omega arith) in absurd (omega arith)
      | inr within ↦ within
    ]

-- twice a product of two numbers whose difference is d
two_products_apart : (a b d : ℕ) → b ≡ a + d → 2 * (a * b) ≤ a * a + b * b
two_products_apart a b d e = rw e (omega arith)

-- twice a product is at most the sum of the squares
pub two_products : (a b : ℕ) → 2 * (a * b) ≤ a * a + b * b
two_products a b =
    elim (cases_lt a b) [
      | inl below ↦ two_products_apart a b (b - a) (omega arith)
      | inr within ↦ omega (arith, two_products_apart b a (a - b) (omega arith))
    ]

-- Cauchy's inequality
pub cauchy_nat : (x y u v : ℕ) → (x * u + y * v) * (x * u + y * v) ≤ (x * x + y * y) * (u * u + v * v)
cauchy_nat x y u v = omega (arith, two_products (x * v) (y * u))

-- a sum of two products, where the sums of squares are bounded
pub products_within : (x y u v a b : ℕ) → x * x + y * y ≤ a * a → u * u + v * v ≤ b * b → x * u + y * v ≤ a * b
products_within x y u v a b first second =
    let both : (x * x + y * y) * (u * u + v * v) ≤ a * a * (b * b) = mul-le-mul first second in
    le_of_square-le (x * u + y * v) (a * b) (omega (arith, cauchy_nat x y u v))

-- the triangle inequality
pub triangle_nat : (x y u v a b : ℕ) → x * x + y * y ≤ a * a → u * u + v * v ≤ b * b → (x + u) * (x + u) + (y + v) * (y + v) ≤ (a + b) * (a + b)
triangle_nat x y u v a b first second = omega (arith, products_within x y u v a b first second)
