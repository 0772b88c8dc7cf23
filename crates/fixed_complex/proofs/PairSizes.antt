-- Sizes of pairs: of sums, differences, products, and of what is rounded.
use Rattle.std.proofs.Common.{◌≡◌, ℕ, ◌+◌, ◌*◌, ◌/◌, ◌≤◌, arith}
use Rattle.std.specs.Prelude.{pos, ◌-ℤ◌, ◌*ℤ◌}
use Rattle.std.proofs.lemmas.Int.{ints}
use Rattle.fixed_complex.specs.declared.Cx.{Cx}
use Rattle.fixed_complex.specs.Pairs.{IsAtLeastOfSize, IsWithin, IsOfSize, plus, minus, conjugate, multiple, squared_size, times, scaled_product}
use Rattle.integer_laws.specs.Size.{sum_of_squares}
use Rattle.integer_laws.proofs.Order.{le_of_pos-le, unsigned_abs-product}
use Rattle.integer_laws.proofs.Sizes.{size_monotone, first_within, second_within, size_of_parts, size_of_parts_sum, size_of_scaled, sum_of_squares_is, sum_of_squares-conjugate, size_of_sum, size_of_difference, size_of_near, size_of_product, size_of_unscaled, size_of_rounding}

-- a larger bound
pub wider : (a b : ℕ) (x : Cx) → a ≤ b → IsOfSize a x → IsOfSize b x
wider a b x h s = record { size = size_monotone x.re x.im a b h s.size }

-- the size of a sum is at most the sum of the sizes
pub size-plus : (a b : ℕ) (x y : Cx) → IsOfSize a x → IsOfSize b y → IsOfSize (a + b) (plus x y)
size-plus a b x y p q = record { size = size_of_sum x.re x.im y.re y.im a b p.size q.size }

pub size-minus : (a b : ℕ) (x y : Cx) → IsOfSize a x → IsOfSize b y → IsOfSize (a + b) (minus x y)
size-minus a b x y p q = record { size = size_of_difference x.re x.im y.re y.im a b p.size q.size }

pub size-conjugate : (a : ℕ) (x : Cx) → IsOfSize a x → IsOfSize a (conjugate x)
size-conjugate a x p = record { size = rw (sum_of_squares-conjugate x.re x.im) p.size }

-- the size of a product is at most the product of the sizes
pub size-times : (a b : ℕ) (x y : Cx) → IsOfSize a x → IsOfSize b y → IsOfSize (a * b) (times x y)
unfolding times
size-times a b x y p q = record { size = size_of_product x.re x.im y.re y.im a b p.size q.size }

-- the size of a multiple
pub size-multiple : (n a : ℕ) (x : Cx) → IsOfSize a x → IsOfSize (n * a) (multiple (pos n) x)
size-multiple n a x h = record { size = size_of_scaled (pos n) x.re x.im n a (omega arith) h.size }

-- the square of a size, and that of one with a least
pub squared_size_is : (x : Cx) → sum_of_squares x.re x.im ≡ pos (squared_size x)
squared_size_is x = sum_of_squares_is x.re x.im

pub least_squared : (a : ℕ) (x : Cx) → IsAtLeastOfSize a x → a * a ≤ squared_size x
least_squared a x least = le_of_pos-le (a * a) (squared_size x) (rw (squared_size_is x) at least.size)

-- a component is at most the size
pub within-size : (a : ℕ) (x : Cx) → IsOfSize a x → IsWithin a x
within-size a x p = record { re = first_within x.re x.im a p.size; im = second_within x.re x.im a p.size }

-- and the size at most twice a bound on the components
pub size-within : (a : ℕ) (x : Cx) → IsWithin a x → IsOfSize (a + a) x
size-within a x p = record { size = size_of_parts_sum x.re x.im a a p.re p.im }

-- the size of a pair by a bound on its components
pub size_by_parts : (a b : ℕ) (x : Cx) → a * a + a * a ≤ b * b → IsWithin a x → IsOfSize b x
size_by_parts a b x enough within = record { size = size_of_parts x.re x.im a a b within.re within.im enough }

-- the rounded product of a turn and a pair
pub size-scaled_product : (s : ℕ) (w z : Cx) → IsOfSize 1048577 w → IsOfSize s z → IsOfSize (s + s / 1048576 + 2) (scaled_product w z)
unfolding scaled_product
size-scaled_product s w z p q =
    let whole = times w z in
    let part = scaled_product w z in
    let near : IsOfSize 1048576 record { re = pos 1048576 *ℤ part.re -ℤ whole.re; im = pos 1048576 *ℤ part.im -ℤ whole.im } =
    record { size = size_of_rounding whole.re whole.im 524288 1048576 (omega arith) (omega arith) } in
    let all = size_of_near (pos 1048576 *ℤ part.re) (pos 1048576 *ℤ part.im) whole.re whole.im 1048576 (1048577 * s) near.size (size-times 1048577 s w z p q).size in
    let enough : 1048576 + 1048577 * s ≤ 1048576 * (s + s / 1048576 + 2) = omega arith in
    record {
      size = size_of_unscaled 1048576 part.re part.im (s + s / 1048576 + 2) (omega arith)
          (size_monotone (pos 1048576 *ℤ part.re) (pos 1048576 *ℤ part.im) (1048576 + 1048577 * s) (1048576 * (s + s / 1048576 + 2)) enough all);
    }

-- ---- components
-- within a larger bound, and those of a conjugate
pub within_wider : (a b : ℕ) (x : Cx) → a ≤ b → IsWithin a x → IsWithin b x
within_wider a b x h w = record { re = omega (arith, w.re); im = omega (arith, w.im) }

pub within-conjugate : (a : ℕ) (x : Cx) → IsWithin a x → IsWithin a (conjugate x)
within-conjugate a x w = record { re = w.re; im = omega (arith, ints, w.im) }

-- the components of a product
pub within-times : (a b : ℕ) (x y : Cx) → IsWithin a x → IsWithin b y → IsWithin (a * b + a * b) (times x y)
unfolding times
within-times a b x y h k = record {
  re = omega (arith, ints, unsigned_abs-product x.re y.re a b h.re k.re, unsigned_abs-product x.im y.im a b h.im k.im);
  im = omega (arith, ints, unsigned_abs-product x.re y.im a b h.re k.im, unsigned_abs-product x.im y.re a b h.im k.re);
}
