-- How large an axis is at most.
use Rattle.std.proofs.Common.{◌≡◌, ℕ, ◌≤◌, List, length, refl, unsigned_abs, arith}
use Rattle.std.proofs.lemmas.Bool.{leb-true}
use Rattle.bit_lists.specs.Bits.{AreBits}
use Rattle.rate_table.specs.declared.Modulation.{Modulation}
use Rattle.rate_table.specs.declared.Modulation.TheVariants.{Bpsk, Qpsk, Qam16, Qam64}
use Rattle.constellations.specs.Axes.{axis_of, axis_width, place_of}
use Rattle.constellations.proofs.BitCases.{one_bit, three_bits, two_bits}

-- no axis of a modulation is larger
abbrev pub size_of_axis : Modulation → ℕ
size_of_axis Bpsk = 648
size_of_axis Qpsk = 458
size_of_axis Qam16 = 615
size_of_axis Qam64 = 700

abbrev IsSmall : Modulation → List ℕ → Type 0
IsSmall modulation bits = unsigned_abs (axis_of modulation bits) ≤ size_of_axis modulation

pub axis_size : (modulation : Modulation) (bits : List ℕ) → AreBits bits → length bits ≡ axis_width modulation → IsSmall modulation bits
unfolding axis_of place_of
axis_size Bpsk = one_bit (IsSmall Bpsk) (leb-true _ _ refl) (leb-true _ _ refl)
axis_size Qpsk = one_bit (IsSmall Qpsk) (leb-true _ _ refl) (leb-true _ _ refl)
axis_size Qam16 = two_bits (IsSmall Qam16) (leb-true _ _ refl) (leb-true _ _ refl) (leb-true _ _ refl) (leb-true _ _ refl)
axis_size Qam64 =
    three_bits (IsSmall Qam64) (leb-true _ _ refl) (leb-true _ _ refl) (leb-true _ _ refl) (leb-true _ _ refl) (leb-true _ _ refl) (leb-true _ _ refl) (leb-true _ _ refl) (leb-true _ _ refl)

pub small_axis : (modulation : Modulation) (bits : List ℕ) → AreBits bits → length bits ≡ axis_width modulation → unsigned_abs (axis_of modulation bits) ≤ 700
small_axis modulation bits are long =
    let own = axis_size modulation bits are long in
    elim modulation as (λ m. unsigned_abs (axis_of m bits) ≤ size_of_axis m → unsigned_abs (axis_of m bits) ≤ 700) [
      | Bpsk ↦ λ h. omega arith
      | Qpsk ↦ λ h. omega arith
      | Qam16 ↦ λ h. omega arith
      | Qam64 ↦ λ h. omega arith
    ] own
