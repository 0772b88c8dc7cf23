-- Taps: what of a capture comes again as an echo, and how late (own).
use Rattle.std.specs.Prelude.{◌≡◌, ℕ, ◌+◌, ◌≤◌, List, [], ◌∷◌, length, replicate, pos, unsigned_abs, slice_set}
use Rattle.std.specs.List.{sum_by}
use Rattle.fixed_complex.specs.declared.Cx.{Cx}
use Rattle.fixed_complex.specs.PairLists.{entry}
use Rattle.fixed_complex.specs.Pairs.{zero_pair}
use Rattle.echo_taps.specs.declared.Tap.{Tap}

-- the size of a tap: that of its two numbers together
abbrev pub size_of : Tap → ℕ
size_of tap = unsigned_abs tap.re + unsigned_abs tap.im

-- delays are from a least to 7, and rise from tap to tap
abbrev pub Rise : ℕ → List Tap → Type 0
Rise least [] = Unit {0}
Rise least (tap ∷ taps) = (least ≤ tap.delay) × (tap.delay ≤ 7) × Rise (tap.delay + 1) taps

-- the pair of a tap
abbrev pub pair_of_tap : Tap → Cx
pair_of_tap tap = record { re = tap.re; im = tap.im }

-- pairs with those of taps put at their delays
unfoldable pub with_taps : List Cx → List Tap → List Cx
with_taps pairs [] = pairs
with_taps pairs (tap ∷ taps) = with_taps (slice_set pairs tap.delay (pair_of_tap tap)) taps

-- the pair (1024, 0), for what comes at once, and seven pairs of 0, for what comes 1 to 7 samples late
abbrev pub no_echo : List Cx
no_echo = record { re = pos 1024; im = pos 0 } ∷ replicate 7 zero_pair

-- the eight pairs of taps, by delay
abbrev pub pairs_of : List Tap → List Cx
pairs_of taps = with_taps no_echo taps

-- the size of a pair: that of its two numbers together
abbrev pub size_of_pair : Cx → ℕ
size_of_pair pair = unsigned_abs pair.re + unsigned_abs pair.im

-- what the pairs of each text of taps are: eight, the first is (1024, 0), and the sizes of the others make at most 256
pub record IsEcho (taps : List Cx) : Type 0 where
  pub eight : length taps ≡ 8
  pub main : entry taps 0 ≡ record { re = pos 1024; im = pos 0 }
  pub sizes : sum_by size_of_pair taps ≤ 1024 + 256
