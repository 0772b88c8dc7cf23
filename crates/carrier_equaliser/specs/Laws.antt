-- What the laws of received carriers state (own).
use Rattle.std.specs.Prelude.{ℕ, ◌+◌, ◌*◌, ◌^◌, ◌<◌, List, pos}
use Rattle.fixed_complex.specs.declared.Cx.{Cx}
use Rattle.fixed_complex.specs.declared.Sample.{Sample}
use Rattle.fixed_complex.specs.PairLists.{entry}
use Rattle.fixed_complex.specs.Pairs.{IsOfSize, IsWithin, minus, multiple}
use Rattle.butterfly64.specs.PlainSums.{plain_down}
use Rattle.carrier_equaliser.specs.Nearness.{AreNearPlainSums, IsNearWave}
use Rattle.fixed_complex.specs.Samples.{pair_at}
use Rattle.carrier_equaliser.specs.Received.{received}

-- the received carriers of samples of 16 bits are within 40 of the plain sums
abbrev pub ReceivedAreNear : Type 0
ReceivedAreNear =
    (samples : List Sample) → ((n : ℕ) → IsWithin (2 ^ 15) (pair_at samples n))
    → AreNearPlainSums 40 (received samples) samples

-- where 64 samples are within a bound of a wave over 2^21 times a scale, each received carrier is near the plain sum of
-- the wave over 2^41 times the scale
abbrev pub ReceivedAtAnyScale : Type 0
ReceivedAtAnyScale =
    (scale bound : ℕ) (wave : ℕ → Cx) (body : List Sample) (carriers : List Cx)
    → IsNearWave scale bound wave body → AreNearPlainSums 40 carriers body → (bin : ℕ) → bin < 64
    → IsOfSize (scale * (2 ^ 21 * 59316417 + 64 * (2965821 * 1048577 * bound)))
    (minus (multiple (pos (2 ^ 41 * scale)) (entry carriers bin)) (plain_down wave bin))
