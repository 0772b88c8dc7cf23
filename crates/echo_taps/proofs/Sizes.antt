-- The sizes of what a text of taps says.
use Rattle.std.proofs.Common.{◌≡◌, ℕ, ◌+◌, ◌≤◌, List, [], ◌∷◌, length, set, sum_by, refl, ◌∙◌, arith}
use Rattle.std.proofs.lemmas.List.{get_or-set_other, length-set}
use Rattle.std.proofs.lemmas.List.Sums.{sum_by-cons, sum_by-set}
use Rattle.fixed_complex.specs.declared.Cx.{Cx}
use Rattle.fixed_complex.specs.PairLists.{entry}
use Rattle.fixed_complex.specs.Pairs.{zero_pair}
use Rattle.echo_taps.specs.declared.Tap.{Tap}
use Rattle.echo_taps.specs.Laws.{PairsAreEcho}
use Rattle.echo_taps.specs.Taps.{IsEcho, Rise, no_echo, pair_of_tap, size_of, size_of_pair, with_taps}

-- pairs with taps put among them, behind the first
record ArePut (pairs : List Cx) (taps : List Tap) (after : List Cx) : Type 0 where
  eight : length after ≡ 8
  main : entry after 0 ≡ entry pairs 0
  sizes : sum_by size_of_pair after ≤ sum_by size_of_pair pairs + sum_by size_of taps

one_put : (pairs : List Cx) (tap : Tap) (taps : List Tap) (after : List Cx) → length pairs ≡ 8 → 1 ≤ tap.delay → tap.delay ≤ 7 → ArePut (set pairs tap.delay (pair_of_tap tap)) taps after → ArePut pairs (tap ∷ taps) after
one_put pairs tap taps after eight least most put = record {
  eight = put.eight;
  main = put.main ∙ get_or-set_other pairs tap.delay 0 (pair_of_tap tap) zero_pair (omega arith);
  sizes = omega (arith, put.sizes, sum_by-set size_of_pair pairs tap.delay (pair_of_tap tap) zero_pair (omega arith), sum_by-cons size_of tap taps);
}

all_put : (pairs : List Cx) (taps : List Tap) (least : ℕ) → length pairs ≡ 8 → 1 ≤ least → Rise least taps → ArePut pairs taps (with_taps pairs taps)
unfolding with_taps
all_put pairs [] least eight some rise = record { eight = eight; main = refl; sizes = omega arith }
all_put pairs (tap ∷ taps) least eight some rise =
    let from = rise.0 in
    one_put pairs tap taps _ eight (omega (arith, from)) rise.1
    (all_put (set pairs tap.delay (pair_of_tap tap)) taps (tap.delay + 1) (length-set pairs tap.delay (pair_of_tap tap) ∙ eight) (omega arith) rise.2)

pub pairs_are_echo : PairsAreEcho
pairs_are_echo text pairs (taps, says, is) =
    let put = all_put no_echo taps 1 refl (omega arith) says.rise in
    let of : IsEcho (with_taps no_echo taps) = record { eight = put.eight; main = put.main; sizes = omega (arith, put.sizes, says.sizes) } in
    rw is of
