-- The size of a pair of whole numbers. That (x, y) is of size at most a is written `sum_of_squares x y ≤ℤ pos (a * a)`.
use Rattle.std.proofs.Common.{◌≡◌, ℕ, ◌+◌, ◌*◌, ◌<◌, ◌≤◌, refl, ap, arith, mul-le-mul, le_trans, mul-pos, le_of_mul-le-mul_right}
use Rattle.std.specs.Prelude.{ℤ, pos, ◌+ℤ◌, ◌-ℤ◌, ◌*ℤ◌, neg_ℤ, ◌≤ℤ◌, unsigned_abs}
use Rattle.std.proofs.lemmas.Int.{ints}
use Rattle.integer_laws.specs.Floor.{floor_div}
use Rattle.integer_laws.specs.Size.{sum_of_squares}
use Rattle.integer_laws.proofs.Squares.{square-le, le_of_square-le, triangle_nat}
use Rattle.integer_laws.proofs.Order.{pos-le, le_of_pos-le, ≤ℤ_trans, square_is, square_within, square-le_sum}
use Rattle.integer_laws.proofs.FloorDivision.{rounding_within}
use Rattle.integer_laws.proofs.Ring.{ring, square, ◌⊕◌, ◌⊖◌, ◌⊗◌, negated, ◌≗◌}

-- ---- over ℕ, by the sizes of the numbers
pub sum_of_squares_is : (x y : ℤ) → sum_of_squares x y ≡ pos (unsigned_abs x * unsigned_abs x + unsigned_abs y * unsigned_abs y)
sum_of_squares_is x y = rw (square_is x, square_is y)

pub size_to_nat : (x y : ℤ) (a : ℕ) → sum_of_squares x y ≤ℤ pos (a * a) → unsigned_abs x * unsigned_abs x + unsigned_abs y * unsigned_abs y ≤ a * a
size_to_nat x y a h = le_of_pos-le _ (a * a) (rw (sum_of_squares_is x y) at h)

pub size_of_nat : (x y : ℤ) (a : ℕ) → unsigned_abs x * unsigned_abs x + unsigned_abs y * unsigned_abs y ≤ a * a → sum_of_squares x y ≤ℤ pos (a * a)
size_of_nat x y a h = rw (sum_of_squares_is x y) (pos-le _ (a * a) h)

-- ---- of one pair
-- a size within a is within what is no less
pub size_monotone : (x y : ℤ) (a b : ℕ) → a ≤ b → sum_of_squares x y ≤ℤ pos (a * a) → sum_of_squares x y ≤ℤ pos (b * b)
size_monotone x y a b within h = ≤ℤ_trans _ _ _ h (pos-le (a * a) (b * b) (square-le a b within))

-- neither number is larger than the pair
pub first_within : (x y : ℤ) (a : ℕ) → sum_of_squares x y ≤ℤ pos (a * a) → unsigned_abs x ≤ a
first_within x y a h = le_of_square-le (unsigned_abs x) a (omega (arith, size_to_nat x y a h))

pub second_within : (x y : ℤ) (a : ℕ) → sum_of_squares x y ≤ℤ pos (a * a) → unsigned_abs y ≤ a
second_within x y a h = le_of_square-le (unsigned_abs y) a (omega (arith, size_to_nat x y a h))

-- the size where each number is bounded
pub size_of_parts : (x y : ℤ) (a b c : ℕ) → unsigned_abs x ≤ a → unsigned_abs y ≤ b → a * a + b * b ≤ c * c → sum_of_squares x y ≤ℤ pos (c * c)
size_of_parts x y a b c first second within = size_of_nat x y c (omega (arith, square-le (unsigned_abs x) a first, square-le (unsigned_abs y) b second))

-- it is at most the sum of the two
pub size_of_parts_sum : (x y : ℤ) (a b : ℕ) → unsigned_abs x ≤ a → unsigned_abs y ≤ b → sum_of_squares x y ≤ℤ pos ((a + b) * (a + b))
size_of_parts_sum x y a b first second = size_of_parts x y a b (a + b) first second (omega arith)

-- a negation and a conjugate have the same size
negation_squared : (x : ℤ) → neg_ℤ x *ℤ neg_ℤ x ≡ x *ℤ x
negation_squared = ring 1 (λ x. negated x ⊗ negated x ≗ square x) refl

pub sum_of_squares-neg_ℤ : (x y : ℤ) → sum_of_squares (neg_ℤ x) (neg_ℤ y) ≡ sum_of_squares x y
sum_of_squares-neg_ℤ x y = rw (negation_squared x, negation_squared y)

pub sum_of_squares-conjugate : (x y : ℤ) → sum_of_squares x (neg_ℤ y) ≡ sum_of_squares x y
sum_of_squares-conjugate x y = rw (negation_squared y)

-- ---- sums and differences
squares_le : (x y p q : ℕ) → x ≤ p → y ≤ q → x * x + y * y ≤ p * p + q * q
squares_le x y p q first second = omega (arith, square-le x p first, square-le y q second)

-- the triangle inequality
pub size_of_sum : (x y u v : ℤ) (a b : ℕ) → sum_of_squares x y ≤ℤ pos (a * a) → sum_of_squares u v ≤ℤ pos (b * b) → sum_of_squares (x +ℤ u) (y +ℤ v) ≤ℤ pos ((a + b) * (a + b))
size_of_sum x y u v a b first second =
    let parts = squares_le (unsigned_abs (x +ℤ u)) (unsigned_abs (y +ℤ v)) (unsigned_abs x + unsigned_abs u) (unsigned_abs y + unsigned_abs v) (omega (arith, ints)) (omega (arith, ints)) in
    size_of_nat (x +ℤ u) (y +ℤ v) (a + b)
    (le_trans parts (triangle_nat (unsigned_abs x) (unsigned_abs y) (unsigned_abs u) (unsigned_abs v) a b (size_to_nat x y a first) (size_to_nat u v b second)))

pub size_of_difference : (x y u v : ℤ) (a b : ℕ) → sum_of_squares x y ≤ℤ pos (a * a) → sum_of_squares u v ≤ℤ pos (b * b) → sum_of_squares (x -ℤ u) (y -ℤ v) ≤ℤ pos ((a + b) * (a + b))
size_of_difference x y u v a b first second = size_of_sum x y (neg_ℤ u) (neg_ℤ v) a b first (rw (sum_of_squares-neg_ℤ u v) second)

-- the same difference the other way round
pub sum_of_squares_swapped : (x y u v : ℤ) → sum_of_squares (x -ℤ u) (y -ℤ v) ≡ sum_of_squares (u -ℤ x) (v -ℤ y)
sum_of_squares_swapped = ring 4 (λ x y u v. square (x ⊖ u) ⊕ square (y ⊖ v) ≗ square (u ⊖ x) ⊕ square (v ⊖ y)) refl

-- a distance by way of a third pair
pub distance_by_way : (x y p q u v : ℤ) (a b : ℕ) → sum_of_squares (x -ℤ p) (y -ℤ q) ≤ℤ pos (a * a) → sum_of_squares (p -ℤ u) (q -ℤ v) ≤ℤ pos (b * b) → sum_of_squares (x -ℤ u) (y -ℤ v) ≤ℤ pos ((a + b) * (a + b))
distance_by_way x y p q u v a b first second =
    let on_the_way = ring 3 (λ x p u. (x ⊖ p) ⊕ (p ⊖ u) ≗ x ⊖ u) refl in
    rw (on_the_way x p u, on_the_way y q v) at (size_of_sum (x -ℤ p) (y -ℤ q) (p -ℤ u) (q -ℤ v) a b first second)

-- the size of what is near a pair
pub size_of_near : (x y u v : ℤ) (a b : ℕ) → sum_of_squares (x -ℤ u) (y -ℤ v) ≤ℤ pos (a * a) → sum_of_squares u v ≤ℤ pos (b * b) → sum_of_squares x y ≤ℤ pos ((a + b) * (a + b))
size_of_near x y u v a b near size =
    let back = ring 2 (λ x u. (x ⊖ u) ⊕ u ≗ x) refl in
    rw (back x u, back y v) at (size_of_sum (x -ℤ u) (y -ℤ v) u v a b near size)

-- ---- products
-- a product of two sums of squares that are bounded
products_le : (m n : ℤ) (a b s t : ℕ) → m ≡ pos s → n ≡ pos t → m ≤ℤ pos (a * a) → n ≤ℤ pos (b * b) → (m *ℤ n) ≤ℤ pos (a * b * (a * b))
products_le m n a b s t e f h k =
    let first : s ≤ a * a = le_of_pos-le s (a * a) (rw e at h) in
    let second : t ≤ b * b = le_of_pos-le t (b * b) (rw f at k) in
    let both : s * t ≤ a * a * (b * b) = mul-le-mul first second in
    rw (e, f) (pos-le (s * t) (a * b * (a * b)) (omega arith))

pub product_of_sums_le : (x y u v : ℤ) (a b : ℕ) → sum_of_squares x y ≤ℤ pos (a * a) → sum_of_squares u v ≤ℤ pos (b * b) → (sum_of_squares x y *ℤ sum_of_squares u v) ≤ℤ pos (a * b * (a * b))
product_of_sums_le x y u v a b h k = products_le _ _ a b _ _ (sum_of_squares_is x y) (sum_of_squares_is u v) h k

-- the sum of squares of a product of pairs, and of a product with a conjugate
pub sum_of_squares-product : (x y u v : ℤ) → sum_of_squares (x *ℤ u -ℤ y *ℤ v) (x *ℤ v +ℤ y *ℤ u) ≡ sum_of_squares x y *ℤ sum_of_squares u v
sum_of_squares-product = ring 4 (λ x y u v. square (x ⊗ u ⊖ y ⊗ v) ⊕ square (x ⊗ v ⊕ y ⊗ u) ≗ (square x ⊕ square y) ⊗ (square u ⊕ square v)) refl

pub sum_of_squares-product_with_conjugate : (x y u v : ℤ) → sum_of_squares (x *ℤ u +ℤ y *ℤ v) (y *ℤ u -ℤ x *ℤ v) ≡ sum_of_squares x y *ℤ sum_of_squares u v
sum_of_squares-product_with_conjugate = ring 4 (λ x y u v. square (x ⊗ u ⊕ y ⊗ v) ⊕ square (y ⊗ u ⊖ x ⊗ v) ≗ (square x ⊕ square y) ⊗ (square u ⊕ square v)) refl

pub size_of_product : (x y u v : ℤ) (a b : ℕ) → sum_of_squares x y ≤ℤ pos (a * a) → sum_of_squares u v ≤ℤ pos (b * b) → sum_of_squares (x *ℤ u -ℤ y *ℤ v) (x *ℤ v +ℤ y *ℤ u) ≤ℤ pos (a * b * (a * b))
size_of_product x y u v a b h k = rw (sum_of_squares-product x y u v) (product_of_sums_le x y u v a b h k)

pub size_of_product_with_conjugate : (x y u v : ℤ) (a b : ℕ) → sum_of_squares x y ≤ℤ pos (a * a) → sum_of_squares u v ≤ℤ pos (b * b) → sum_of_squares (x *ℤ u +ℤ y *ℤ v) (y *ℤ u -ℤ x *ℤ v) ≤ℤ pos (a * b * (a * b))
size_of_product_with_conjugate x y u v a b h k = rw (sum_of_squares-product_with_conjugate x y u v) (product_of_sums_le x y u v a b h k)

-- the size of a pair times a number
pub sum_of_squares-scaled : (k x y : ℤ) → sum_of_squares (k *ℤ x) (k *ℤ y) ≡ k *ℤ k *ℤ sum_of_squares x y
sum_of_squares-scaled = ring 3 (λ k x y. square (k ⊗ x) ⊕ square (k ⊗ y) ≗ k ⊗ k ⊗ (square x ⊕ square y)) refl

pub size_of_scaled : (k x y : ℤ) (m a : ℕ) → unsigned_abs k ≤ m → sum_of_squares x y ≤ℤ pos (a * a) → sum_of_squares (k *ℤ x) (k *ℤ y) ≤ℤ pos (m * a * (m * a))
size_of_scaled k x y m a within h = rw (sum_of_squares-scaled k x y) (products_le (k *ℤ k) (sum_of_squares x y) m a _ _ (square_is k) (sum_of_squares_is x y) (square_within k m within) h)

-- and back
pub size_of_unscaled : (m : ℕ) (x y : ℤ) (a : ℕ) → 0 < m → sum_of_squares (pos m *ℤ x) (pos m *ℤ y) ≤ℤ pos (m * a * (m * a)) → sum_of_squares x y ≤ℤ pos (a * a)
size_of_unscaled m x y a above h =
    let s = unsigned_abs x * unsigned_abs x + unsigned_abs y * unsigned_abs y in
    let equal : pos m *ℤ pos m *ℤ sum_of_squares x y ≡ pos (m * m * s) = ap (λ t. pos m *ℤ pos m *ℤ t) (sum_of_squares_is x y) in
    let scaled : m * m * s ≤ m * a * (m * a) = le_of_pos-le (m * m * s) (m * a * (m * a)) (rw (sum_of_squares-scaled (pos m) x y, equal) at h) in
    let regrouped : s * (m * m) ≤ a * a * (m * m) = omega arith in
    size_of_nat x y a (le_of_mul-le-mul_right regrouped (mul-pos above above))

-- ---- Cauchy's inequality
pub cauchy : (x y u v : ℤ) → ((x *ℤ u +ℤ y *ℤ v) *ℤ (x *ℤ u +ℤ y *ℤ v)) ≤ℤ (sum_of_squares x y *ℤ sum_of_squares u v)
cauchy x y u v = rw (← sum_of_squares-product_with_conjugate x y u v) (square-le_sum (x *ℤ u +ℤ y *ℤ v) (y *ℤ u -ℤ x *ℤ v))

-- a sum of two products, where the sizes are bounded
pub sum_of_products_within : (x y u v : ℤ) (a b : ℕ) → sum_of_squares x y ≤ℤ pos (a * a) → sum_of_squares u v ≤ℤ pos (b * b) → unsigned_abs (x *ℤ u +ℤ y *ℤ v) ≤ a * b
sum_of_products_within x y u v a b h k = first_within (x *ℤ u +ℤ y *ℤ v) (y *ℤ u -ℤ x *ℤ v) (a * b) (size_of_product_with_conjugate x y u v a b h k)

-- ---- rounding of both numbers of a pair
pub size_of_rounding : (p q : ℤ) (half c : ℕ) → 0 < half → half * half + half * half ≤ c * c → sum_of_squares (pos (2 * half) *ℤ floor_div (p +ℤ pos half) (2 * half) -ℤ p) (pos (2 * half) *ℤ floor_div (q +ℤ pos half) (2 * half) -ℤ q) ≤ℤ pos (c * c)
size_of_rounding p q half c above within = size_of_parts _ _ half half c (rounding_within p half above) (rounding_within q half above) within
