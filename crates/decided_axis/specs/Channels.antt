-- Received carriers and an estimate over one channel, up to errors (own). The scale stands in place of a quotient:
-- what is said of a pair holds of the scale times the pair.
use Rattle.std.specs.Prelude.{ℕ, ◌+◌, ◌*◌, ◌<◌, List, pos}
use Rattle.fixed_complex.specs.declared.Cx.{Cx}
use Rattle.fixed_complex.specs.PairLists.{entry}
use Rattle.fixed_complex.specs.Pairs.{IsAtLeastOfSize, IsOfSize, minus, multiple, times}
use Rattle.rate_table.specs.declared.Modulation.{Modulation}
use Rattle.rate_table.specs.declared.Modulation.TheVariants.{Bpsk, Qpsk, Qam16, Qam64}
use Rattle.constellations.specs.Axes.{amplitude_of}

-- a carrier that was sent comes back as 32 times itself and the channel over the scale, to within an error in size
pub record IsCarried (scale error : ℕ) (channel sent received : Cx) : Type 0 where
  pub near : IsOfSize (scale * error)
      (minus (multiple (pos scale) received) (multiple (pos 32) (times sent channel)))

-- a channel is estimated as 41472 = 2 * 32 * 648 times itself over the scale, to within an error in size
pub record IsEstimated (scale error : ℕ) (channel estimate : Cx) : Type 0 where
  pub near : IsOfSize (scale * error)
      (minus (multiple (pos scale) estimate) (multiple (pos 41472) channel))

-- in each of 64 bins what was sent comes back over the channel there
abbrev pub AreCarried : ℕ → ℕ → (ℕ → Cx) → (ℕ → Cx) → List Cx → Type 0
AreCarried scale error channel sent received =
    (bin : ℕ) → bin < 64 → IsCarried scale error (channel bin) (sent bin) (entry received bin)

-- no point of a modulation is larger in size
abbrev pub size_of_point : Modulation → ℕ
size_of_point Bpsk = 648
size_of_point Qpsk = 648
size_of_point Qam16 = 870
size_of_point Qam64 = 990

-- over a channel of at least a size a carrier that was sent is received, and the channel is estimated, to within errors
pub record IsOver (scale carried estimated least : ℕ) (channel sent received estimate : Cx)
    : Type 0 where
  pub carries : IsCarried scale carried channel sent received
  pub estimates : IsEstimated scale estimated channel estimate
  pub large : IsAtLeastOfSize least channel

-- errors and the least size of a channel allow a modulation: `left` is what they leave of the estimate's size, and it is
-- enough for half a spacing of the levels
pub record Allows (modulation : Modulation) (scale carried estimated least left : ℕ) : Type 0 where
  pub some : 0 < scale
  pub leaves : scale * left + scale * estimated < 41472 * least
  pub enough : 1296 * carried + size_of_point modulation * estimated
      < amplitude_of modulation * left
