-- The decisions against the size of a channel (own).
use Rattle.std.specs.Prelude.{◌≡◌, ◌≢◌, ℕ, ◌*◌, ◌<◌, List, [], ◌∷◌, ◌++◌, slice_index_or, count_by, replicate, Bool, ℤ, pos, neg_ℤ, ◌-ℤ◌, ◌*ℤ◌, int_le, unsigned_abs, take}
use Rattle.fixed_complex.specs.declared.Cx.{Cx}
use Rattle.rate_table.specs.declared.Modulation.{Modulation}
use Rattle.rate_table.specs.declared.Modulation.TheVariants.{Bpsk, Qpsk, Qam16, Qam64}
use Rattle.constellations.specs.Axes.{amplitude_of, level_bits}

-- the thresholds of an axis, halfway between neighbouring levels
abbrev pub thresholds : Modulation → List ℤ
thresholds Bpsk = pos 0 ∷ []
thresholds Qpsk = pos 0 ∷ []
thresholds Qam16 = neg_ℤ (pos 410) ∷ pos 0 ∷ pos 410 ∷ []
thresholds Qam64 =
    neg_ℤ (pos 600) ∷ neg_ℤ (pos 400) ∷ neg_ℤ (pos 200) ∷ pos 0 ∷ pos 200 ∷ pos 400 ∷ pos 600 ∷ []

-- whether an axis lies above a threshold, where m is the square of the channel's size
abbrev pub lies_above : ℤ → ℤ → ℤ → Bool
lies_above part m threshold = int_le (threshold *ℤ m) (pos 1296 *ℤ part)

-- how many thresholds an axis lies above
unfoldable pub thresholds_below : Modulation → ℤ → ℤ → ℕ
thresholds_below modulation part m = count_by (lies_above part m) (thresholds modulation)

-- the bits of the level at that place
abbrev pub axis_decided : Modulation → ℤ → ℤ → List ℕ
axis_decided modulation part m =
    slice_index_or (level_bits modulation) (thresholds_below modulation part m) []

-- the bits of I and then those of Q, with zeros behind them up to six entries; BPSK has no bit for Q
unfoldable pub decided : Modulation → Cx → ℤ → List ℕ
decided Bpsk z m = axis_decided Bpsk z.re m ++ replicate 5 0
decided Qpsk z m = axis_decided Qpsk z.re m ++ (axis_decided Qpsk z.im m ++ replicate 4 0)
decided Qam16 z m = axis_decided Qam16 z.re m ++ (axis_decided Qam16 z.im m ++ replicate 2 0)
decided Qam64 z m = axis_decided Qam64 z.re m ++ axis_decided Qam64 z.im m

-- a received axis is less than the amplitude, half the spacing of the levels, away from an axis that was sent, over a
-- channel whose size has the square m
abbrev pub IsNearAxis : Modulation → ℤ → ℤ → ℕ → Type 0
IsNearAxis modulation sent part m =
    unsigned_abs (pos 1296 *ℤ part -ℤ sent *ℤ pos m) < amplitude_of modulation * m

-- so near are both axes of a point; in BPSK Q plays no part
pub record IsNear (modulation : Modulation) (sent z : Cx) (m : ℕ) : Type 0 where
  pub i : IsNearAxis modulation sent.re z.re m
  pub q : modulation ≢ Bpsk → IsNearAxis modulation sent.im z.im m

-- a received point is exactly a point that was sent, over a channel whose size has the square m
pub record IsExactly (sent z : Cx) (m : ℕ) : Type 0 where
  pub i : pos 1296 *ℤ z.re ≡ sent.re *ℤ pos m
  pub q : pos 1296 *ℤ z.im ≡ sent.im *ℤ pos m

-- the first N_BPSC bits, with zeros behind them up to six entries
abbrev pub used_bits : Modulation → List ℕ → List ℕ
used_bits Bpsk bits = take 1 bits ++ replicate 5 0
used_bits Qpsk bits = take 2 bits ++ replicate 4 0
used_bits Qam16 bits = take 4 bits ++ replicate 2 0
used_bits Qam64 bits = take 6 bits
