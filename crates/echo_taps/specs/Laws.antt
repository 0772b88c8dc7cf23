-- What the laws of texts of taps state (own).
use Rattle.std.specs.Prelude.{ℕ, ◌+◌, ◌*◌, ◌<◌, ◌≡◌, List, length}
use Rattle.fixed_complex.specs.declared.Cx.{Cx}
use Rattle.fixed_complex.specs.declared.Sample.{Sample}
use Rattle.fixed_complex.specs.Laws.{sum_below}
use Rattle.fixed_complex.specs.PairLists.{entry}
use Rattle.fixed_complex.specs.Pairs.{IsOfSize, IsWithin, minus, times}
use Rattle.fixed_complex.specs.Samples.{AreSamples, pair_at, sample_at}
use Rattle.echo_taps.specs.Echoes.{echo_of, gathered, held_sample}
use Rattle.echo_taps.specs.Taps.{IsEcho}
use Rattle.echo_taps.specs.Texts.{SaysPairs}

-- each text says one list of pairs, at most
abbrev pub OnePairs : Type 0
OnePairs = (text : List ℕ) (a b : List Cx) → SaysPairs a text → SaysPairs b text → a ≡ b

-- what a text says is an echo
abbrev pub PairsAreEcho : Type 0
PairsAreEcho = (text : List ℕ) (pairs : List Cx) → SaysPairs pairs text → IsEcho pairs

-- what comes together over an echo of pairs of at most a size is at most 1280 times so large
abbrev pub EchoOfSize : Type 0
EchoOfSize =
    (taps : List Cx) (bound : ℕ) (pairs : ℕ → Cx) → IsEcho taps
    → ((late : ℕ) → IsOfSize bound (pairs late))
    → IsOfSize (1280 * bound) (sum_below 8 (λ late. times (entry taps late) (pairs late)))

-- so it is with their components
abbrev pub EchoWithin : Type 0
EchoWithin =
    (taps : List Cx) (bound : ℕ) (pairs : ℕ → Cx) → IsEcho taps
    → ((late : ℕ) → IsWithin bound (pairs late))
    → IsWithin (1280 * bound) (sum_below 8 (λ late. times (entry taps late) (pairs late)))

-- and what the seven others add to what comes at once is at most 256 times so large
abbrev pub EchoBesideFirst : Type 0
EchoBesideFirst =
    (taps : List Cx) (bound : ℕ) (pairs : ℕ → Cx) → IsEcho taps
    → ((late : ℕ) → IsOfSize bound (pairs late))
    → IsOfSize (256 * bound)
    (minus (sum_below 8 (λ late. times (entry taps late) (pairs late)))
    (times (entry taps 0) (pairs 0)))

-- an echo is seven samples longer than what it is of
abbrev pub EchoIsLong : Type 0
EchoIsLong = (taps : List Cx) (samples : List Sample) → length (echo_of taps samples) ≡ length samples + 7

-- and each of its samples is what comes together there, rounded and held
abbrev pub EchoAtPlace : Type 0
EchoAtPlace =
    (taps : List Cx) (samples : List Sample) (place : ℕ) → place < length samples + 7
    → sample_at (echo_of taps samples) place ≡ held_sample (gathered taps (pair_at samples) place)

-- whatever samples are, their echo has 16 bits
abbrev pub EchoIsSamples : Type 0
EchoIsSamples = (taps : List Cx) (samples : List Sample) → AreSamples (echo_of taps samples)
