-- What the laws of decisions over a channel state (own).
use Rattle.std.specs.Prelude.{◌≡◌, ℕ, ◌+◌, ◌*◌, ◌^◌, ◌<◌, ◌≤◌, List, length, take, ℤ, pos, ◌*ℤ◌}
use Rattle.integer_laws.specs.Size.{sum_of_squares}
use Rattle.bit_lists.specs.Bits.{AreBits}
use Rattle.fixed_complex.specs.declared.Cx.{Cx}
use Rattle.fixed_complex.specs.declared.Sample.{Sample}
use Rattle.fixed_complex.specs.PairLists.{entry}
use Rattle.fixed_complex.specs.Pairs.{IsAtLeastOfSize, IsOfSize, IsWithin, conjugate, minus, multiple, plus, times}
use Rattle.rate_table.specs.declared.Modulation.{Modulation}
use Rattle.rate_table.specs.declared.Rate.{Rate}
use Rattle.rate_table.specs.Table.{bits_of_modulation, row_of}
use Rattle.interleave_two.specs.Place.{deinterleaved}
use Rattle.butterfly64.specs.PlainSums.{plain_down}
use Rattle.carrier_bins.specs.Bins.{by_bin, carrier_in}
use Rattle.carrier_bins.specs.Carriers.{bin_of, data_carrier_of}
use Rattle.plain_waves.specs.Bodies.{plain_body}
use Rattle.training_fields.specs.Training.{long_carrier, long_sign_of}
use Rattle.constellations.specs.Decisions.{decided}
use Rattle.constellations.specs.Points.{point_of}
use Rattle.symbol_builder.specs.Carriers.{symbol_bin}
use Rattle.symbol_builder.specs.Points.{points_of_code}
use Rattle.carrier_equaliser.specs.Decided.{interleaved_decisions}
use Rattle.carrier_equaliser.specs.Estimates.{estimate_of}
use Rattle.carrier_equaliser.specs.Nearness.{AreNearPlainSums, IsNearWave}
use Rattle.decided_axis.specs.Channels.{Allows, AreCarried, IsCarried, IsEstimated, IsOver, size_of_point}

-- the point of N_BPSC bits is at most so large in size
abbrev pub PointsOfSize : Type 0
PointsOfSize =
    (modulation : Modulation) (group : List ℕ) → AreBits group
    → length group ≡ bits_of_modulation modulation
    → IsOfSize (size_of_point modulation) (point_of modulation group)

-- the bin of a data number
abbrev pub data_bin : ℕ → ℕ
data_bin number = bin_of (data_carrier_of number)

-- where both bodies of the long training field bring 648 times the sign of a carrier, their sum times the sign is an
-- estimate of the channel, with twice the error
abbrev pub EstimatedByTwo : Type 0
EstimatedByTwo =
    (scale error : ℕ) (sign : ℤ) (channel first second : Cx) → sign *ℤ sign ≡ pos 1
    → IsCarried scale error channel (record { re = pos 648 *ℤ sign; im = pos 0 }) first
    → IsCarried scale error channel (record { re = pos 648 *ℤ sign; im = pos 0 }) second
    → IsEstimated scale (2 * error) channel (multiple sign (plus first second))

-- the bits of a point that was sent are decided, where the errors and the channel allow its modulation
abbrev pub DecidedRightly : Type 0
DecidedRightly =
    (modulation : Modulation) (group : List ℕ) (scale carried estimated least left : ℕ)
    (channel received estimate : Cx) → AreBits group
    → length group ≡ bits_of_modulation modulation
    → Allows modulation scale carried estimated least left
    → IsOver scale carried estimated least channel (point_of modulation group) received estimate
    → take (bits_of_modulation modulation)
    (decided modulation (times received (conjugate estimate))
    (sum_of_squares estimate.re estimate.im))
    ≡ group

-- the coded bits of a symbol are decided, where the errors and the channels of its data numbers allow its modulation
abbrev pub SymbolDecided : Type 0
SymbolDecided =
    (rate : Rate) (scale carried estimated least left : ℕ) (bits : List ℕ) (channel : ℕ → Cx)
    (estimate symbol : List Cx) → AreBits bits → length bits ≡ (row_of rate).coded_bits
    → Allows (row_of rate).modulation scale carried estimated least left
    → ((number : ℕ) → number < 48
    → IsOver scale carried estimated least (channel number)
    (entry (points_of_code rate bits) number)
    (entry symbol (data_bin number)) (entry estimate (data_bin number)))
    → deinterleaved rate (interleaved_decisions rate estimate symbol) ≡ bits

-- where 64 samples are near a wave, whose plain sum is, to within an error, a carrier times a channel at a finer scale,
-- 2^41 times what the received carrier is away from it is at most the error and what rounding and noise add to it
abbrev pub CarriedByWave : Type 0
CarriedByWave =
    (scale finer bound away : ℕ) (channel sent : Cx) (wave : ℕ → Cx) (body : List Sample)
    (carriers : List Cx) (bin : ℕ)
    → IsNearWave scale bound wave body → AreNearPlainSums 40 carriers body → bin < 64
    → IsOfSize away
    (minus (multiple (pos finer) (plain_down wave bin)) (multiple (pos (2 ^ 46)) (times sent channel)))
    → IsOfSize
    (finer * (scale * (2 ^ 21 * 59316417 + 64 * (2965821 * 1048577 * bound))) + away)
    (multiple (pos (2 ^ 41))
    (minus (multiple (pos (scale * finer)) (entry carriers bin)) (multiple (pos 32) (times sent channel))))

-- where 64 samples are near a plain body times one pair, not much larger than the scale, each carrier of the body comes
-- back over this pair; the pair is (1, 0) where there is noise alone
abbrev pub CarriedByOne : Type 0
CarriedByOne =
    (scale bound size : ℕ) (channel : Cx) (sent : ℕ → Cx) (body : List Sample) (carriers : List Cx)
    → 0 < scale → IsOfSize size channel → 1000 * size ≤ 1001 * scale
    → ((bin : ℕ) → bin < 64 → IsWithin 954 (sent bin))
    → IsNearWave scale bound (λ n. times channel (plain_body sent n)) body
    → AreNearPlainSums 40 carriers body
    → AreCarried scale (91 * bound + 70) (λ _. channel) sent carriers

-- where both bodies of the long training field come back, the channel is estimated in each bin that they use
abbrev pub EstimatedByBodies : Type 0
EstimatedByBodies =
    (scale error : ℕ) (channel : ℕ → Cx) (first second : List Cx) (bin : ℕ) → bin < 64
    → long_sign_of (carrier_in bin) *ℤ long_sign_of (carrier_in bin) ≡ pos 1
    → AreCarried scale error channel (by_bin long_carrier) first
    → AreCarried scale error channel (by_bin long_carrier) second
    → IsEstimated scale (2 * error) (channel bin) (entry (estimate_of first second) bin)

-- where a symbol, of any number, comes back, too, its coded bits are decided
abbrev pub DecidedByBodies : Type 0
DecidedByBodies =
    (rate : Rate) (scale error least left number : ℕ) (bits : List ℕ) (channel : ℕ → Cx)
    (first second symbol : List Cx) → AreBits bits → length bits ≡ (row_of rate).coded_bits
    → Allows (row_of rate).modulation scale error (2 * error) least left
    → AreCarried scale error channel (by_bin long_carrier) first
    → AreCarried scale error channel (by_bin long_carrier) second
    → AreCarried scale error channel (symbol_bin (points_of_code rate bits) number) symbol
    → ((bin : ℕ) → bin < 64 → IsAtLeastOfSize least (channel bin))
    → deinterleaved rate (interleaved_decisions rate (estimate_of first second) symbol) ≡ bits
