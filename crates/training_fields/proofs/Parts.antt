-- Numbers as the code computes them.
use Rattle.std.proofs.Common.{◌≡◌, ℕ, ◌≤◌, ◌∙◌, arith, w32, w64, to_z, of_z, ℤ, pos, ◌*ℤ◌, unsigned_abs}
use Rattle.std.proofs.lemmas.Int.{ints}
use Rattle.carrier_bins.specs.Bins.{carrier_in}

-- a carrier's number
pub carrier_held : (z : ℤ) (bin : ℕ) → unsigned_abs z ≤ 32 → z ≡ carrier_in bin → to_z w32 (of_z w32 z) ≡ carrier_in bin
carrier_held z bin small e = let held : to_z w32 (of_z w32 z) ≡ z = omega (arith, ints) in held ∙ e

-- an amplitude times a sign
pub signed_954 : (s : ℤ) → unsigned_abs s ≤ 1 → to_z w64 (of_z w64 (pos 954 *ℤ to_z w64 (of_z w64 s))) ≡ pos 954 *ℤ s
signed_954 s small = omega (arith, ints)

pub signed_648 : (s : ℤ) → unsigned_abs s ≤ 1 → to_z w64 (of_z w64 (pos 648 *ℤ to_z w64 (of_z w64 s))) ≡ pos 648 *ℤ s
signed_648 s small = omega (arith, ints)
