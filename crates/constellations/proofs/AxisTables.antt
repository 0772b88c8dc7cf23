-- The axes in the tables are those of their bits.
use Rattle.std.proofs.Common.{◌≡◌, ℕ, ◌+◌, ◌*◌, List, length, slice_index, slice_index_or, ℤ, pos, to_z, of_z, w64, refl}
use Rattle.bit_lists.specs.Bits.{AreBits}
use Rattle.rate_table.specs.declared.Modulation.TheVariants.{Bpsk, Qpsk, Qam16, Qam64}
use Rattle.constellations.specs.declared.TheConstants.{AXES_BPSK, AXES_QPSK, AXES_16, AXES_64}
use Rattle.constellations.specs.Axes.{axis_of, place_of}
use Rattle.constellations.proofs.BitCases.{one_bit, three_bits, two_bits}

-- the entry of a table at a place, as the code passes it on
abbrev pub entry_in : List ℤ → ℕ → ℤ
entry_in table n = to_z w64 (of_z w64 (slice_index_or table n (pos 0)))

pub axis_bpsk : (bits : List ℕ) (n : ℕ) → AreBits bits → length bits ≡ 1 → n ≡ slice_index bits 0 → entry_in AXES_BPSK n ≡ axis_of Bpsk bits
unfolding axis_of place_of
axis_bpsk bits n are long is = rw is (one_bit (λ bits. entry_in AXES_BPSK (slice_index bits 0) ≡ axis_of Bpsk bits) refl refl bits are long)

pub axis_qpsk : (bits : List ℕ) (n : ℕ) → AreBits bits → length bits ≡ 1 → n ≡ slice_index bits 0 → entry_in AXES_QPSK n ≡ axis_of Qpsk bits
unfolding axis_of place_of
axis_qpsk bits n are long is = rw is (one_bit (λ bits. entry_in AXES_QPSK (slice_index bits 0) ≡ axis_of Qpsk bits) refl refl bits are long)

pub axis_16 : (bits : List ℕ) (n : ℕ) → AreBits bits → length bits ≡ 2 → n ≡ 2 * slice_index bits 0 + slice_index bits 1 → entry_in AXES_16 n ≡ axis_of Qam16 bits
unfolding axis_of place_of
axis_16 bits n are long is =
    rw is (two_bits (λ bits. entry_in AXES_16 (2 * slice_index bits 0 + slice_index bits 1) ≡ axis_of Qam16 bits) refl refl refl refl bits are long)

pub axis_64 : (bits : List ℕ) (n : ℕ) → AreBits bits → length bits ≡ 3 → n ≡ 4 * slice_index bits 0 + 2 * slice_index bits 1 + slice_index bits 2 → entry_in AXES_64 n ≡ axis_of Qam64 bits
unfolding axis_of place_of
axis_64 bits n are long is =
    rw is
    (three_bits (λ bits. entry_in AXES_64 (4 * slice_index bits 0 + 2 * slice_index bits 1 + slice_index bits 2) ≡ axis_of Qam64 bits) refl refl refl refl refl refl refl refl bits are long)
