-- What the laws of the channels of echoes state (own).
use Rattle.std.specs.Prelude.{ℕ, ◌+◌, ◌*◌, ◌^◌, ◌<◌, List, pos}
use Rattle.fixed_complex.specs.declared.Cx.{Cx}
use Rattle.fixed_complex.specs.declared.Sample.{Sample}
use Rattle.fixed_complex.specs.PairLists.{entry}
use Rattle.fixed_complex.specs.Pairs.{IsAtLeastOfSize, IsOfSize, IsWithin, minus, multiple, times}
use Rattle.echo_taps.specs.Taps.{IsEcho}
use Rattle.carrier_equaliser.specs.Nearness.{AreNearPlainSums}
use Rattle.decided_axis.specs.Bodies.{FitABody}
use Rattle.decided_axis.specs.Channels.{AreCarried}
use Rattle.echo_channels.specs.Channels.{IsNearEchoedBody, channel_of, echoed_body}

-- a channel is at least 0.749 of 2^30 in size
abbrev pub ChannelIsLarge : Type 0
ChannelIsLarge =
    (taps : List Cx) (bin : ℕ) → IsEcho taps
    → IsAtLeastOfSize (749 * 2 ^ 30) (multiple (pos 1000) (channel_of taps bin))

-- and at most 1.251
abbrev pub ChannelIsSmall : Type 0
ChannelIsSmall =
    (taps : List Cx) (bin : ℕ) → IsEcho taps
    → IsOfSize (1251 * 2 ^ 30) (multiple (pos 1000) (channel_of taps bin))

-- 1000 times what a received carrier is away from 32 times the carrier that was sent and its channel is at most
-- 90528*B + 88640 in size, which is 1000 * 32 * (2.829*B + 2.77)
abbrev pub IsNearSent : ℕ → List Cx → ℕ → Cx → Cx → Type 0
IsNearSent bound taps bin sent received =
    IsOfSize (2 ^ 30 * (90528 * bound + 88640))
    (multiple (pos 1000)
    (minus (multiple (pos (2 ^ 30)) received) (multiple (pos 32) (times sent (channel_of taps bin)))))

-- so it is where 64 samples are near an echoed body
abbrev pub CyclicPrefix : Type 0
CyclicPrefix =
    (bound : ℕ) (taps : List Cx) (carried : ℕ → Cx) (body : List Sample) (carriers : List Cx)
    → IsEcho taps → FitABody carried → IsNearEchoedBody bound taps carried body
    → AreNearPlainSums 40 carriers body → (bin : ℕ) → bin < 64
    → IsNearSent bound taps bin (carried bin) (entry carriers bin)

-- and each carrier comes back over its channel
abbrev pub CarriedInEcho : Type 0
CarriedInEcho =
    (bound : ℕ) (taps : List Cx) (carried : ℕ → Cx) (body : List Sample) (carriers : List Cx)
    → IsEcho taps → FitABody carried → IsNearEchoedBody bound taps carried body
    → AreNearPlainSums 40 carriers body
    → AreCarried (2 ^ 30) (91 * bound + 89) (channel_of taps) carried carriers

-- no component of an echoed body is larger than 1280 * 50112 * 1048577
abbrev pub BodyIsSmall : Type 0
BodyIsSmall =
    (taps : List Cx) (carried : ℕ → Cx) (n : ℕ) → IsEcho taps → FitABody carried
    → IsWithin (1280 * (50112 * 1048577)) (echoed_body taps carried n)
