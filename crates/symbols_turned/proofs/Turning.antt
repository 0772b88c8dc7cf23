-- The turn of a symbol, from carriers that came back: its error, and that nothing of it is held.
use Rattle.std.proofs.Common.{◌≡◌, ℕ, ◌+◌, ◌-◌, ◌*◌, ◌^◌, ◌<◌, ◌≤◌, inl, inr, List, refl, arith, mul-le-mul, ℤ, pos, ◌+ℤ◌, ◌-ℤ◌, ◌*ℤ◌, unsigned_abs}
use Rattle.std.proofs.lemmas.Bool.Decides.{eqb_tells}
use Rattle.std.proofs.lemmas.Int.{ints}
use Rattle.integer_laws.proofs.Order.{pos-le, ≤ℤ_trans}
use Rattle.integer_laws.proofs.Ring.{ring, number, ◌⊖◌, ◌⊗◌, ◌≗◌}
use Rattle.integer_laws.proofs.Sizes.{size_of_unscaled}
use Rattle.fixed_complex.specs.declared.Cx.{Cx}
use Rattle.fixed_complex.specs.Laws.{sum_below}
use Rattle.fixed_complex.specs.PairLists.{entry}
use Rattle.fixed_complex.specs.Pairs.{IsAtLeastOfSize, IsOfSize, IsWithin, minus, multiple, squared_size}
use Rattle.fixed_complex.proofs.Pairs.{same_parts}
use Rattle.fixed_complex.proofs.PairSizes.{least_squared, within-size}
use Rattle.lane_kernels.proofs.Holding.{held-small}
use Rattle.decided_axis.specs.Channels.{IsCarried, IsEstimated}
use Rattle.decided_axis.proofs.Channels.{left_of, signed}
use Rattle.pilot_turns.specs.Pilots.{pilot_back, pilot_bin, pilots_back, pilots_weight, sign_of_pilot, turn_by_pilots, turn_part}
use Rattle.symbols_turned.specs.Turns.{IsTurn, unturned}
use Rattle.symbols_turned.proofs.Pilots.{four_pairs, four_weights, full, quotient, size_away, size_four, told}

-- ---- a turn's size
pub turn_small : (w : Cx) → IsTurn w → IsOfSize 1048578 w
turn_small w turn = record { size = ≤ℤ_trans _ _ _ turn.most (pos-le (2 ^ 40 + 2 ^ 22) (1048578 * 1048578) (omega arith)) }

pub turn_large : (w : Cx) → IsTurn w → IsAtLeastOfSize 1048573 w
turn_large w turn = record { size = ≤ℤ_trans _ _ _ (pos-le (1048573 * 1048573) (2 ^ 40 - 2 ^ 22) (omega arith)) turn.least }

-- ---- the estimate, out of its scale
pub estimate_out : (e : ℕ) (h : Cx) → IsEstimated 1048576 e unturned h → IsOfSize e (minus h full)
estimate_out e h estimated =
    let same : multiple (pos 1048576) (minus h full) ≡ minus (multiple (pos 1048576) h) (multiple (pos 41472) unturned) = same_parts _ _ (re h.re) (im h.im) in
    let d = minus h full in
    let scaled : IsOfSize (1048576 * e) (multiple (pos 1048576) d) = rw same estimated.near in
    record { size = size_of_unscaled 1048576 d.re d.im e (omega arith) scaled.size }
  where
    re : (h : ℤ) → pos 1048576 *ℤ (h -ℤ pos 41472) ≡ pos 1048576 *ℤ h -ℤ pos 41472 *ℤ pos 1048576
    re = ring 1 (λ h. number (pos 1048576) ⊗ (h ⊖ number (pos 41472)) ≗ number (pos 1048576) ⊗ h ⊖ number (pos 41472) ⊗ number (pos 1048576)) refl

    im : (h : ℤ) → pos 1048576 *ℤ (h -ℤ pos 0) ≡ pos 1048576 *ℤ h -ℤ pos 41472 *ℤ pos 0
    im = ring 1 (λ h. number (pos 1048576) ⊗ (h ⊖ number (pos 0)) ≗ number (pos 1048576) ⊗ h ⊖ number (pos 41472) ⊗ number (pos 0)) refl

-- a part that is not held
part_small : (u w : ℤ) (most : ℕ) → most ≤ 4000 → unsigned_abs (pos 1048576 *ℤ u -ℤ pos 16384 *ℤ w) ≤ 1048576 * most → unsigned_abs w ≤ 1048578 → unsigned_abs u ≤ 16385 + most
part_small u w most few near small = omega (arith, ints)

full_large : IsAtLeastOfSize 1048576 unturned
full_large = record { size = pos-le (1048576 * 1048576) (1048576 * 1048576) (omega arith) }

-- ---- the turn that four pilots tell
-- what one pilot brings: its sign has the square 1, it comes back over the turn, and the channel is estimated there
pub record IsPilot (error : ℕ) (turn : Cx) (estimate symbol : List Cx) (n k : ℕ) : Type 0 where
  pub one : sign_of_pilot n k *ℤ sign_of_pilot n k ≡ pos 1
  pub carries : IsCarried 1048576 error turn (signed (sign_of_pilot n k)) (entry symbol (pilot_bin k))
  pub estimates : IsEstimated 1048576 (2 * error) unturned (entry estimate (pilot_bin k))

-- how far four pilots are away from the turn together
abbrev pub pilot_error : ℕ → ℕ
pilot_error k = (2 * (1048576 * k) + 1048578 * (2 * k)) * (41472 + 2 * k)

module _ (error left most : ℕ) (turn : Cx) (estimate symbol : List Cx) (n : ℕ) (is : IsTurn turn) (pilots : (k : ℕ) → k < 4 → IsPilot error turn estimate symbol n k)
    (leaves : 1048576 * left + 1048576 * (2 * error) < 41472 * 1048576) (some : 0 < left) (few : 1 + most ≤ 4000)
    (enough : 32768 * (pilot_error error + pilot_error error + pilot_error error + pilot_error error) ≤ (8 * (left * left)) * (1048576 * most)) where
  abbrev channel : ℕ → Cx
  channel k = entry estimate (pilot_bin k)

  channel_square : (k : ℕ) → k < 4 → left * left ≤ squared_size (channel k)
  channel_square k lt =
      least_squared left (channel k) (left_of 1048576 (2 * error) 1048576 left unturned (channel k) (pilots k lt).estimates full_large leaves)

  one_pilot : (k : ℕ) → k < 4 → IsOfSize (pilot_error error) (minus (multiple (pos 1048576 +ℤ pos 1048576) (pilot_back estimate symbol n k)) (multiple (pos (squared_size (channel k))) turn))
  one_pilot k lt =
      size_away error (sign_of_pilot n k) (entry symbol (pilot_bin k)) (channel k) turn (pilots k lt).one (pilots k lt).carries.near (estimate_out (2 * error) (channel k) (pilots k lt).estimates) (turn_small turn is)

  weight_is : pilots_weight estimate ≡ four_weights (squared_size (channel 0)) (squared_size (channel 1)) (squared_size (channel 2)) (squared_size (channel 3))
  unfolding pilots_weight
  weight_is = refl

  sum_is : pilots_back estimate symbol n ≡ four_pairs (pilot_back estimate symbol n 0) (pilot_back estimate symbol n 1) (pilot_back estimate symbol n 2) (pilot_back estimate symbol n 3)
  unfolding pilots_back sum_below
  sum_is = refl

  weight_large : 4 * (left * left) ≤ pilots_weight estimate
  weight_large =
      let a = channel_square 0 (omega arith) in
      let b = channel_square 1 (omega arith) in
      let c = channel_square 2 (omega arith) in
      let d = channel_square 3 (omega arith) in
      rw weight_is (omega (arith, a, b, c, d))

  weight_some : 0 < pilots_weight estimate
  weight_some =
      let one : 1 ≤ left = omega arith in
      let square : 1 * 1 ≤ left * left = mul-le-mul one one in
      omega (arith, weight_large, square)

  abbrev turned : Cx
  turned = quotient (pilots_weight estimate) (pilots_back estimate symbol n)

  -- before it is held
  quotient_near : IsOfSize (1048576 * (1 + most)) (minus (multiple (pos 1048576) turned) (multiple (pos 16384) turn))
  quotient_near =
      let e = pilot_error error in
      let four = size_four (pos 1048576) e (pilot_back estimate symbol n 0) (pilot_back estimate symbol n 1) (pilot_back estimate symbol n 2) (pilot_back estimate symbol n 3) turn
      (squared_size (channel 0)) (squared_size (channel 1)) (squared_size (channel 2)) (squared_size (channel 3))
      (one_pilot 0 (omega arith)) (one_pilot 1 (omega arith)) (one_pilot 2 (omega arith)) (one_pilot 3 (omega arith)) in
      let all : IsOfSize (e + e + e + e) (minus (multiple (pos 1048576 +ℤ pos 1048576) (pilots_back estimate symbol n)) (multiple (pos (pilots_weight estimate)) turn)) = rw (sum_is, weight_is) four in
      let weights : 8 * (left * left) ≤ pilots_weight estimate + pilots_weight estimate = omega (arith, weight_large) in
      let more : (8 * (left * left)) * (1048576 * most) ≤ (pilots_weight estimate + pilots_weight estimate) * (1048576 * most) = mul-le-mul weights (omega arith) in
      told (pilots_weight estimate) (e + e + e + e) most (pilots_back estimate symbol n) turn weight_some all (omega (arith, enough, more))

  turned_small : IsWithin 20385 turned
  turned_small =
      let near = within-size (1048576 * (1 + most)) _ quotient_near in
      let size = within-size 1048578 turn (turn_small turn is) in
      let re = part_small turned.re turn.re (1 + most) few near.re size.re in
      let im = part_small turned.im turn.im (1 + most) few near.im size.im in
      record { re = omega (arith, re, few); im = omega (arith, im, few) }

  -- nothing is held
  pub turn_is : turn_by_pilots estimate symbol n ≡ turned
  unfolding turn_by_pilots
  turn_is =
      let weight = pilots_weight estimate in
      let small = turned_small in
      let re : turn_part weight (pilots_back estimate symbol n).re ≡ turned.re = held-small turned.re (omega (arith, small.re)) in
      let im : turn_part weight (pilots_back estimate symbol n).im ≡ turned.im = held-small turned.im (omega (arith, small.im)) in
      elim (eqb_tells weight 0) [
        | inl none ↦ let zero_weight : weight ≡ 0 = none.1 in absurd (omega (arith, weight_some, zero_weight))
        | inr test ↦ rw test.0 (same_parts _ _ re im)
      ]

  pub turn_near : IsOfSize (1048576 * (1 + most)) (minus (multiple (pos 1048576) (turn_by_pilots estimate symbol n)) (multiple (pos 16384) turn))
  turn_near = rw turn_is quotient_near

  pub turn_within : IsWithin 20385 (turn_by_pilots estimate symbol n)
  turn_within = rw turn_is turned_small
