-- The place of the level of an axis, threshold by threshold.
use Rattle.std.proofs.Common.{◌≡◌, ℕ, ◌+◌, cond, int_le, ℤ, pos, negsuc, ◌*ℤ◌, refl, ◌∙◌, arith}
use Rattle.rate_table.specs.declared.Modulation.TheVariants.{Bpsk, Qpsk, Qam16, Qam64}
use Rattle.constellations.specs.Decisions.{lies_above, thresholds_below}

-- whether an axis lies above a threshold, as a number
abbrev pub above : ℤ → ℤ → ℤ → ℕ
above part m threshold = cond (lies_above part m threshold) 1 0

-- the same of both sides of the comparison, computed before
pub above_is : (part m threshold axis least : ℤ) (a : ℕ) → axis ≡ pos 1296 *ℤ part → least ≡ threshold *ℤ m → a ≡ cond (int_le least axis) 1 0 → a ≡ above part m threshold
above_is part m threshold axis least a axis_is least_is is = is ∙ rw (axis_is, least_is) refl

-- the thresholds of each modulation, one by one
pub bpsk : (part m : ℤ) (a : ℕ) → a ≡ above part m (pos 0) → a ≡ thresholds_below Bpsk part m
unfolding thresholds_below
bpsk part m a is = omega (arith, is)

pub qpsk : (part m : ℤ) (a : ℕ) → a ≡ above part m (pos 0) → a ≡ thresholds_below Qpsk part m
unfolding thresholds_below
qpsk part m a is = omega (arith, is)

pub qam16 : (part m : ℤ) (a b c : ℕ) → a ≡ above part m (negsuc 409) → b ≡ above part m (pos 0) → c ≡ above part m (pos 410) → a + b + c ≡ thresholds_below Qam16 part m
unfolding thresholds_below
qam16 part m a b c is_a is_b is_c = omega (arith, is_a, is_b, is_c)

pub qam64 : (part m : ℤ) (a b c d e f g : ℕ) → a ≡ above part m (negsuc 599) → b ≡ above part m (negsuc 399) → c ≡ above part m (negsuc 199) → d ≡ above part m (pos 0)
    → e ≡ above part m (pos 200) → f ≡ above part m (pos 400) → g ≡ above part m (pos 600) → a + b + c + d + (e + f + g) ≡ thresholds_below Qam64 part m
unfolding thresholds_below
qam64 part m a b c d e f g is_a is_b is_c is_d is_e is_f is_g = omega (arith, is_a, is_b, is_c, is_d, is_e, is_f, is_g)
