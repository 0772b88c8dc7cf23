-- Numbers and pairs as the code computes them in 64 bits.
use Rattle.std.proofs.Common.{◌≡◌, ℕ, ◌+◌, ◌-◌, ◌*◌, ◌^◌, ◌<◌, ◌≤◌, ◌∙◌, ap, arith, w16, w32, w64, to_z, of_z, ℤ, pos, ◌+ℤ◌, ◌-ℤ◌, ◌*ℤ◌, unsigned_abs}
use Rattle.std.proofs.lemmas.Int.{ints}
use Rattle.integer_laws.specs.Floor.{floor_div}
use Rattle.integer_laws.proofs.FloorDivision.{rounding_within}
use Rattle.integer_laws.proofs.Order.{unsigned_abs-product}
use Rattle.fixed_complex.specs.declared.Cx.{Cx}
use Rattle.fixed_complex.specs.Pairs.{IsOfSize, IsWithin, multiple}
use Rattle.fixed_complex.proofs.PairSizes.{size-within, wider}

-- a number of 16 bits, taken from 64
held_in_16 : (h : ℤ) → unsigned_abs h ≤ 25057 → to_z w16 (of_z w16 (to_z w64 (of_z w64 h))) ≡ h
held_in_16 h small = omega (arith, ints)

held_sum : (v : ℤ) (half : ℕ) → half ≤ 2 ^ 20 → unsigned_abs v ≤ 2 ^ 40 → to_z w64 (of_z w64 (to_z w64 (of_z w64 v) +ℤ pos half)) ≡ v +ℤ pos half
held_sum v half least small = omega (arith, ints)

-- what is rounded is small where the rounded number is
small_before : (v h : ℤ) (half : ℕ) → half ≤ 2 ^ 20 → unsigned_abs (pos (2 * half) *ℤ h -ℤ v) ≤ half → unsigned_abs h ≤ 25057 → unsigned_abs (pos (2 * half) *ℤ h) ≤ 2 * half * 25057 → unsigned_abs v ≤ 2 ^ 40
small_before v h half least near small product = omega (arith, ints)

-- rounding half up to a number of 16 bits, as the code computes it
pub rounded_to_16 : (v : ℤ) (half : ℕ) → 0 < half → half ≤ 2 ^ 20 → unsigned_abs (floor_div (v +ℤ pos half) (2 * half)) ≤ 25057 → to_z w16 (of_z w16 (to_z w64 (of_z w64 (floor_div (to_z w64 (of_z w64 (to_z w64 (of_z w64 v) +ℤ pos half))) (2 * half))))) ≡ floor_div (v +ℤ pos half) (2 * half)
rounded_to_16 v half above least fits =
    let h = floor_div (v +ℤ pos half) (2 * half) in
    let product = unsigned_abs-product (pos (2 * half)) h (2 * half) 25057 (omega arith) fits in
    let small = small_before v h half least (rounding_within v half above) fits product in
    ap (λ m. to_z w16 (of_z w16 (to_z w64 (of_z w64 (floor_div m (2 * half)))))) (held_sum v half least small) ∙ held_in_16 h fits

-- the same of a word
held_word : (v : ℤ) → unsigned_abs v ≤ 2 ^ 31 - 2 ^ 9 → to_z w32 (of_z w32 (to_z w32 (of_z w32 v) +ℤ pos 256)) ≡ v +ℤ pos 256
held_word v small = omega (arith, ints)

held_word_in_16 : (h : ℤ) → unsigned_abs h ≤ 25057 → to_z w16 (of_z w16 (to_z w32 (of_z w32 h))) ≡ h
held_word_in_16 h small = omega (arith, ints)

pub rounded_word : (v : ℤ) → unsigned_abs v ≤ 2 ^ 31 - 2 ^ 9 → unsigned_abs (floor_div (v +ℤ pos 256) 512) ≤ 25057 → to_z w16 (of_z w16 (to_z w32 (of_z w32 (floor_div (to_z w32 (of_z w32 (to_z w32 (of_z w32 v) +ℤ pos 256))) 512)))) ≡ floor_div (v +ℤ pos 256) 512
rounded_word v small fits =
    ap (λ m. to_z w16 (of_z w16 (to_z w32 (of_z w32 (floor_div m 512))))) (held_word v small)
    ∙ held_word_in_16 (floor_div (v +ℤ pos 256) 512) fits

-- a part of a carrier, times 256, as a word
pub word_256 : (part word : ℤ) → unsigned_abs part ≤ 954 → word ≡ pos 256 *ℤ to_z w64 (of_z w64 part) → to_z w32 (of_z w32 word) ≡ pos 256 *ℤ part
word_256 part word small is = omega (arith, ints)

by_256_within : (x : Cx) → IsWithin 954 x → IsWithin (2 ^ 18) (multiple (pos 256) x)
by_256_within x within = let re = within.re in let im = within.im in record { re = omega (arith, ints); im = omega (arith, ints) }

pub by_256_size : (x : Cx) → IsWithin 954 x → IsOfSize (2 ^ 24) (multiple (pos 256) x)
by_256_size x within = wider (2 ^ 18 + 2 ^ 18) (2 ^ 24) _ (omega arith) (size-within (2 ^ 18) _ (by_256_within x within))
