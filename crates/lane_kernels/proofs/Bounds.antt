-- How large products of two numbers of 16 bits are.
use Rattle.std.proofs.Common.{◌*◌, ◌≤◌, suc, ℤ, pos, negsuc, ◌*ℤ◌, arith}
use Rattle.std.specs.Prelude.{unsigned_abs, FitsSigned}
use Rattle.std.proofs.lemmas.Int.{ints, unsigned_abs-mul}
use Rattle.std.proofs.Math.Nat.{mul-le-mul}
use mir.Syntax.{w16}
use Rattle.lane_kernels.specs.Lanes.{IsProduct, IsSquare}

bounded : (z : ℤ) → unsigned_abs z ≤ 1073709056 → IsProduct z
bounded z h = record { low = omega (arith, ints); high = omega (arith, ints) }

-- the size of a number of 16 bits
pub size-le : (z : ℤ) → FitsSigned w16 z → unsigned_abs z ≤ 32768
size-le z h = omega (arith, ints)

pub product-bounds : (a b : ℤ) → FitsSigned w16 a → FitsSigned w16 b → IsProduct (a *ℤ b)
product-bounds (pos m) b h k =
    let first : unsigned_abs (pos m) ≤ 32767 = omega (arith, ints) in
    bounded (pos m *ℤ b) (rw unsigned_abs-mul (mul-le-mul first (size-le b k)))
product-bounds (negsuc m) (pos n) h k =
    let first : unsigned_abs (negsuc m) ≤ 32768 = omega (arith, ints) in
    let second : unsigned_abs (pos n) ≤ 32767 = omega (arith, ints) in
    bounded (negsuc m *ℤ pos n) (rw unsigned_abs-mul (mul-le-mul first second))
product-bounds (negsuc m) (negsuc n) h k =
    let first : suc m ≤ 32768 = omega (arith, ints) in
    let second : suc n ≤ 32768 = omega (arith, ints) in
    let both : suc m * suc n ≤ 1073741824 = mul-le-mul first second in
    record { low = omega (arith, ints); high = omega (arith, ints) }

pub square-bounds : (a : ℤ) → FitsSigned w16 a → IsSquare (a *ℤ a)
square-bounds (pos m) h =
    let first : m ≤ 32768 = omega (arith, ints) in
    let both : m * m ≤ 1073741824 = mul-le-mul first first in
    record { low = omega (arith, ints); high = omega (arith, ints) }
square-bounds (negsuc m) h =
    let first : suc m ≤ 32768 = omega (arith, ints) in
    let both : suc m * suc m ≤ 1073741824 = mul-le-mul first first in
    record { low = omega (arith, ints); high = omega (arith, ints) }
