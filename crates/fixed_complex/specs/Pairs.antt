-- Whole-number pairs, each read as the complex number re + im * sqrt(-1) (own).
use Rattle.std.specs.Prelude.{ℕ, ◌+◌, ◌*◌, ◌≤◌, ℤ, pos, ◌+ℤ◌, ◌-ℤ◌, ◌*ℤ◌, neg_ℤ, ◌≤ℤ◌, unsigned_abs}
use Rattle.fixed_complex.specs.declared.Cx.{Cx}
use Rattle.fixed_complex.specs.Rounding.{half_up}

abbrev pub zero_pair : Cx
zero_pair = record { re = pos 0; im = pos 0 }

abbrev pub plus : Cx → Cx → Cx
plus a b = record { re = a.re +ℤ b.re; im = a.im +ℤ b.im }

abbrev pub minus : Cx → Cx → Cx
minus a b = record { re = a.re -ℤ b.re; im = a.im -ℤ b.im }

abbrev pub conjugate : Cx → Cx
conjugate a = record { re = a.re; im = neg_ℤ a.im }

-- a pair times a whole number
abbrev pub multiple : ℤ → Cx → Cx
multiple n a = record { re = n *ℤ a.re; im = n *ℤ a.im }

-- the complex product
unfoldable pub times : Cx → Cx → Cx
times a b = record { re = a.re *ℤ b.re -ℤ a.im *ℤ b.im; im = a.re *ℤ b.im +ℤ a.im *ℤ b.re }

-- the product over 2^20, each component rounded half up
unfoldable pub scaled_product : Cx → Cx → Cx
scaled_product w z = record { re = half_up 20 (times w z).re; im = half_up 20 (times w z).im }

-- a pair over 2^bits, each component rounded half up
abbrev pub rounded_pair : ℕ → Cx → Cx
rounded_pair bits a = record { re = half_up bits a.re; im = half_up bits a.im }

-- the square of a pair's size
abbrev pub squared_size : Cx → ℕ
squared_size a = unsigned_abs a.re * unsigned_abs a.re + unsigned_abs a.im * unsigned_abs a.im

-- each component is at most so large in size
pub record IsWithin (bound : ℕ) (a : Cx) : Type 0 where
  pub re : unsigned_abs a.re ≤ bound
  pub im : unsigned_abs a.im ≤ bound

-- the pair is at most so large in size: re^2 + im^2 is at most the bound's square
pub record IsOfSize (bound : ℕ) (a : Cx) : Type 0 where
  pub size : (a.re *ℤ a.re +ℤ a.im *ℤ a.im) ≤ℤ pos (bound * bound)

-- the pair is at least so large in size: re^2 + im^2 is at least the bound's square
pub record IsAtLeastOfSize (bound : ℕ) (a : Cx) : Type 0 where
  pub size : pos (bound * bound) ≤ℤ (a.re *ℤ a.re +ℤ a.im *ℤ a.im)
