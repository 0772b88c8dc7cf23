-- Taps put among the pairs, one by one.
use Rattle.std.proofs.Common.{◌≡◌, List, [], ◌∷◌, slice_set, ap, refl}
use Rattle.fixed_complex.specs.declared.Cx.{Cx}
use Rattle.echo_taps.specs.declared.Tap.{Tap}
use Rattle.echo_taps.specs.Taps.{pair_of_tap, with_taps}

pub with_none : (pairs : List Cx) (tap : Tap) → slice_set pairs tap.delay (pair_of_tap tap) ≡ with_taps pairs (tap ∷ [])
unfolding with_taps
with_none pairs tap = refl

pub with_more : (pairs after : List Cx) (tap : Tap) (taps : List Tap) → after ≡ slice_set pairs tap.delay (pair_of_tap tap) → with_taps after taps ≡ with_taps pairs (tap ∷ taps)
unfolding with_taps
with_more pairs after tap taps is = ap (λ list. with_taps list taps) is
