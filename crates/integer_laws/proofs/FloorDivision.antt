-- Division rounded down, as inequalities.
use Rattle.std.proofs.Common.{◌≡◌, ℕ, ◌+◌, ◌*◌, ◌<◌, ◌≤◌, ◌^◌, refl, ap, sym, arith, lt_of_mul-lt-mul_right, div-le_self}
use Rattle.std.proofs.Math.Nat.{div-div-eq-div-mul}
use Rattle.std.specs.Int.{int_shr}
use Rattle.std.specs.Prelude.{ℤ, pos, negsuc, ◌+ℤ◌, ◌-ℤ◌, ◌*ℤ◌, ◌≤ℤ◌, ◌<ℤ◌, unsigned_abs}
use Rattle.std.proofs.lemmas.Int.{ints}
use borrow.Author.Differences.{up, down, sum_is_lem, product_is, same_in}
use Rattle.integer_laws.specs.Floor.{floor_div}

-- the two bounds of a floor, on the parts of the numbers
pub lower_parts : (z : ℤ) (n : ℕ) → 0 < n → n * up (floor_div z n) + down z ≤ n * down (floor_div z n) + up z
lower_parts (pos a) n above = omega arith
lower_parts (negsuc a) n above = omega arith

pub upper_parts : (z : ℤ) (n : ℕ) → 0 < n → n * down (floor_div z n) + up z < n * up (floor_div z n) + down z + n
upper_parts (pos a) n above = omega arith
upper_parts (negsuc a) n above = omega arith

-- the floor times the divisor is not above the dividend
pub floor_div-lower : (z : ℤ) (n : ℕ) → 0 < n → (floor_div z n *ℤ pos n) ≤ℤ z
floor_div-lower z n above = omega (arith, ints, lower_parts z n above)

-- and one more is above it
pub floor_div-upper : (z : ℤ) (n : ℕ) → 0 < n → z <ℤ ((floor_div z n +ℤ pos 1) *ℤ pos n)
floor_div-upper z n above = omega (arith, ints, upper_parts z n above, ap (λ s. s * n) (sum_is_lem (floor_div z n) (pos 1)))

-- from products with one factor
le_of_products : (a b n : ℕ) → n * a < n * b + n → a ≤ b
le_of_products a b n h = let more : a * n < (b + 1) * n = omega arith in let less : a < b + 1 = lt_of_mul-lt-mul_right n more in omega arith

-- p ≤ q, where n * p ≤ z and z < n * (q + 1)
between : (p q z : ℤ) (n : ℕ) → n * up p + down z ≤ n * down p + up z → n * down q + up z < n * up q + down z + n → up p + down q ≤ up q + down p
between p q z n lower upper = le_of_products (up p + down q) (up q + down p) n (omega arith)

-- the floor is the one number between these bounds
pub floor_div-only : (z q : ℤ) (n : ℕ) → 0 < n → (q *ℤ pos n) ≤ℤ z → z <ℤ ((q +ℤ pos 1) *ℤ pos n) → q ≡ floor_div z n
floor_div-only z q n above lower upper =
    let f = floor_div z n in
    let low : n * up q + down z ≤ n * down q + up z = omega (arith, ints) in
    let high : n * down q + up z < n * up q + down z + n = omega (arith, ints, ap (λ s. s * n) (sum_is_lem q (pos 1))) in
    same_in q f (omega (arith, between q f z n low (upper_parts z n above), between f q z n (lower_parts z n above) high))

-- a multiple of the divisor comes out of the floor
pub floor_div-add_multiple : (z q : ℤ) (n : ℕ) → 0 < n → floor_div (z +ℤ q *ℤ pos n) n ≡ floor_div z n +ℤ q
floor_div-add_multiple z q n above =
    let sum = z +ℤ q *ℤ pos n in
    let f = floor_div z n in
    let g = floor_div sum n in
    let parts : n * up (f +ℤ q) + n * down f + n * down q ≡ n * down (f +ℤ q) + n * up f + n * up q = omega (arith, ap (λ s. n * s) (sum_is_lem f q)) in
    let whole : up sum + down z + n * down q ≡ down sum + up z + n * up q = omega (arith, sum_is_lem z (q *ℤ pos n), product_is q (pos n)) in
    let low : n * up (f +ℤ q) + down sum ≤ n * down (f +ℤ q) + up sum = omega (arith, lower_parts z n above) in
    let high : n * down (f +ℤ q) + up sum < n * up (f +ℤ q) + down sum + n = omega (arith, upper_parts z n above) in
    same_in g (f +ℤ q) (omega (arith, between (f +ℤ q) g sum n low (upper_parts sum n above), between g (f +ℤ q) sum n (lower_parts sum n above) high))

-- the floor grows with the dividend
pub floor_div-monotone : (y z : ℤ) (n : ℕ) → 0 < n → y ≤ℤ z → floor_div y n ≤ℤ floor_div z n
floor_div-monotone y z n above h =
    let low : n * up (floor_div y n) + down z ≤ n * down (floor_div y n) + up z = omega (arith, ints, lower_parts y n above) in
    omega (arith, ints, between (floor_div y n) (floor_div z n) z n low (upper_parts z n above))

-- the product with the divisor is within half of it of what was rounded
pub rounding_within : (p : ℤ) (half : ℕ) → 0 < half → unsigned_abs (pos (2 * half) *ℤ floor_div (p +ℤ pos half) (2 * half) -ℤ p) ≤ half
rounding_within p half above =
    let above_too : 0 < 2 * half = omega arith in
    omega (arith, ints, lower_parts (p +ℤ pos half) (2 * half) above_too, upper_parts (p +ℤ pos half) (2 * half) above_too)

-- the size of the floor is at most the dividend's
pub unsigned_abs-floor_div : (z : ℤ) (n : ℕ) → unsigned_abs (floor_div z n) ≤ unsigned_abs z
unsigned_abs-floor_div (pos a) n = div-le_self a n
unsigned_abs-floor_div (negsuc a) n = omega (arith, div-le_self a n)

-- the floor of a multiple of the divisor
pub floor_div-multiple : (q : ℤ) (n : ℕ) → 0 < n → floor_div (q *ℤ pos n) n ≡ q
floor_div-multiple q n above = sym (floor_div-only (q *ℤ pos n) q n above (omega (arith, ints)) (omega (arith, ints, ap (λ s. s * n) (sum_is_lem q (pos 1)))))

-- two divisions are one by the product
pub floor_div-floor_div : (z : ℤ) (m n : ℕ) → floor_div (floor_div z m) n ≡ floor_div z (m * n)
floor_div-floor_div (pos a) m n = ap pos (div-div-eq-div-mul a m n)
floor_div-floor_div (negsuc a) m n = ap negsuc (div-div-eq-div-mul a m n)

-- what is rounded is at most b in size where the dividend is at most the divisor times b
pub rounded_within : (p : ℤ) (half b : ℕ) → 0 < half → unsigned_abs p ≤ 2 * half * b → unsigned_abs (floor_div (p +ℤ pos half) (2 * half)) ≤ b
rounded_within p half b above within =
    let z = p +ℤ pos half in
    let f = floor_div z (2 * half) in
    let above_too : 0 < 2 * half = omega arith in
    let low = lower_parts z (2 * half) above_too in
    let high = upper_parts z (2 * half) above_too in
    let not_above : up f ≤ b + down f = le_of_products (up f) (b + down f) (2 * half) (omega (arith, ints)) in
    let not_below : down f ≤ b + up f = le_of_products (down f) (b + up f) (2 * half) (omega (arith, ints)) in
    omega (arith, ints)

-- a shift right is a floor over a power of 2
pub int_shr_is : (z : ℤ) (k : ℕ) → int_shr z k ≡ floor_div z (2 ^ k)
int_shr_is z k = refl
