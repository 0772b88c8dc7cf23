-- The levels of an axis (IEEE Std 802.11-2012, 18.3.5.8; the amplitudes are own).
use Rattle.std.specs.Prelude.{ℕ, ◌-◌, ◌*◌, ◌+◌, List, [], ◌∷◌, length, nat_eq, ℤ, pos, ◌-ℤ◌, ◌*ℤ◌}
use Rattle.std.specs.Cmp.Lexicographic.{pointwise}
use Rattle.std.specs.List.{position_or_len}
use Rattle.std.specs.Int.{bit_at}
use Rattle.bit_lists.specs.Bits.{exclusive_or}
use Rattle.rate_table.specs.declared.Modulation.{Modulation}
use Rattle.rate_table.specs.declared.Modulation.TheVariants.{Bpsk, Qpsk, Qam16, Qam64}

-- how many bits an axis has; in BPSK only I has one
abbrev pub axis_width : Modulation → ℕ
axis_width Bpsk = 1
axis_width Qpsk = 1
axis_width Qam16 = 2
axis_width Qam64 = 3

-- the bits of the levels of an axis, from the lowest level to the highest: neighbours differ in one bit (Gray coded)
abbrev pub level_bits : Modulation → List (List ℕ)
level_bits Bpsk = (0 ∷ []) ∷ (1 ∷ []) ∷ []
level_bits Qpsk = (0 ∷ []) ∷ (1 ∷ []) ∷ []
level_bits Qam16 = (0 ∷ 0 ∷ []) ∷ (0 ∷ 1 ∷ []) ∷ (1 ∷ 1 ∷ []) ∷ (1 ∷ 0 ∷ []) ∷ []
level_bits Qam64 =
    (0 ∷ 0 ∷ 0 ∷ []) ∷ (0 ∷ 0 ∷ 1 ∷ []) ∷ (0 ∷ 1 ∷ 1 ∷ []) ∷ (0 ∷ 1 ∷ 0 ∷ []) ∷ (1 ∷ 1 ∷ 0 ∷ [])
    ∷ (1 ∷ 1 ∷ 1 ∷ []) ∷ (1 ∷ 0 ∷ 1 ∷ []) ∷ (1 ∷ 0 ∷ 0 ∷ []) ∷ []

-- the place of the level that bits name, counted from 0 at the lowest
unfoldable pub place_of : Modulation → List ℕ → ℕ
place_of modulation bits = position_or_len (pointwise nat_eq bits) (level_bits modulation)

-- the level at a place: odd numbers from the lowest to the highest, as -3, -1, 1, 3
abbrev pub level_at : Modulation → ℕ → ℤ
level_at modulation place = pos (2 * place) -ℤ pos (length (level_bits modulation) - 1)

-- the size of level 1 (own)
abbrev pub amplitude_of : Modulation → ℕ
amplitude_of Bpsk = 648
amplitude_of Qpsk = 458
amplitude_of Qam16 = 205
amplitude_of Qam64 = 100

-- the axis of a point whose bits on this axis are given
unfoldable pub axis_of : Modulation → List ℕ → ℤ
axis_of modulation bits =
    pos (amplitude_of modulation) *ℤ level_at modulation (place_of modulation bits)

-- a bit of the Gray code of a place, 0 being the least significant: whether that bit of the place differs from the next
abbrev pub gray_bit : ℕ → ℕ → ℕ
gray_bit place bit = exclusive_or (bit_at place bit) (bit_at place (bit + 1))
