-- A turned symbol is turned back by its pilots, and decided as it was sent.
use Rattle.std.proofs.Common.{◌≡◌, ℕ, ◌+◌, ◌*◌, ◌<◌, inl, inr, List, true, false, eqb, nat_lt, cond, refl, ap, subst, ◌∙◌, arith, ℤ, pos, ◌*ℤ◌, ◌≤ℤ◌, neg_ℤ, unsigned_abs, slice_index_or}
use Rattle.std.proofs.lemmas.Bool.{agree_below_at, eqb-true, ltb-true}
use Rattle.std.proofs.lemmas.Int.{ints, unsigned_abs-mul}
use Rattle.integer_laws.proofs.Order.{square_is}
use Rattle.fixed_complex.specs.declared.Cx.{Cx}
use Rattle.fixed_complex.specs.PairLists.{entry}
use Rattle.fixed_complex.specs.Pairs.{IsOfSize, minus, multiple, zero_pair}
use Rattle.fixed_complex.proofs.PairSizes.{wider}
use Rattle.rate_table.specs.declared.Modulation.{Modulation}
use Rattle.rate_table.specs.Table.{row_of}
use Rattle.carrier_bins.specs.Bins.{carrier_in}
use Rattle.carrier_bins.specs.Carriers.{bin_of, data_carrier_of}
use Rattle.carrier_bins.specs.Signs.{sign_at}
use Rattle.carrier_bins.proofs.Bins.{carrier_back}
use Rattle.training_fields.specs.Training.{long_sign_of}
use Rattle.symbol_builder.specs.Carriers.{data_number_in, pilot_at, pilot_sign_of, polarity_of, symbol_bin}
use Rattle.symbol_builder.specs.Points.{points_of_code}
use Rattle.symbol_builder.proofs.Bins.{point_there}
use Rattle.symbol_builder.proofs.Pilots.{polarity_cases}
use Rattle.carrier_equaliser.specs.Estimates.{estimate_of}
use Rattle.decided_axis.specs.Channels.{IsCarried, IsEstimated, IsOver}
use Rattle.decided_axis.specs.Laws.{data_bin}
use Rattle.decided_axis.proofs.Bodies.{estimated_by_bodies, sign_squared}
use Rattle.decided_axis.proofs.Symbols.{data_bin-lt, symbol_decided}
use Rattle.pilot_turns.specs.Pilots.{pilot_bin, pilot_carrier, sign_of_pilot, turn_by_pilots}
use Rattle.pilot_turns.specs.Turned.{interleaved_turned, turned_carriers, turned_channels}
use Rattle.pilot_turns.proofs.Parts.{carrier_entry, channel_entry}
use Rattle.symbols_turned.specs.Turns.{carrier_error, turn_error, unturned}
use Rattle.symbols_turned.specs.Laws.{AreTurned, DecidedTurned, TurnIsTold}
use Rattle.symbols_turned.proofs.Channels.{carried_more, estimated_more, large_more}
use Rattle.symbols_turned.proofs.Numbers.{bears, channel_error, error_before, left_at_pilots, left_of_turned}
use Rattle.decided_axis.proofs.Channels.{signed}
use Rattle.symbols_turned.proofs.Turning.{IsPilot, turn_near}

-- ---- the pilots: their bins, their signs, and what they carry
pilot_bin-lt : (k : ℕ) → k < 4 → pilot_bin k < 64
unfolding bin_of
pilot_bin-lt k lt = ltb-true _ _ (agree_below_at (λ k. nat_lt (pilot_bin k) 64) (λ _. true) 4 k refl lt)

no_data : (k : ℕ) → k < 4 → nat_lt (data_number_in (pilot_bin k)) 48 ≡ false
unfolding bin_of data_carrier_of data_number_in
no_data k lt = agree_below_at (λ k. nat_lt (data_number_in (pilot_bin k)) 48) (λ _. false) 4 k refl lt

has_sign : (k : ℕ) → k < 4 → eqb (unsigned_abs (long_sign_of (carrier_in (pilot_bin k)))) 1 ≡ true
unfolding bin_of sign_at
has_sign k lt = agree_below_at (λ k. eqb (unsigned_abs (long_sign_of (carrier_in (pilot_bin k)))) 1) (λ _. true) 4 k refl lt

is_pilot : (k : ℕ) → k < 4 → eqb (unsigned_abs (pilot_sign_of (pilot_carrier k))) 1 ≡ true
unfolding sign_at
is_pilot k lt = agree_below_at (λ k. eqb (unsigned_abs (pilot_sign_of (pilot_carrier k))) 1) (λ _. true) 4 k refl lt

-- a number of size 1 has the square 1
square_of_one : (z : ℤ) → unsigned_abs z ≡ 1 → z *ℤ z ≡ pos 1
square_of_one z one = square_is z ∙ ap (λ n. pos (n * n)) one

pilot_one : (n k : ℕ) → k < 4 → sign_of_pilot n k *ℤ sign_of_pilot n k ≡ pos 1
pilot_one n k lt =
    let sign : unsigned_abs (pilot_sign_of (pilot_carrier k)) ≡ 1 = eqb-true _ _ (is_pilot k lt) in
    let polar : unsigned_abs (polarity_of n) ≡ 1 = elim (polarity_cases n) [ inl e ↦ rw e refl | inr e ↦ rw e refl ] in
    square_of_one (sign_of_pilot n k) (unsigned_abs-mul (polarity_of n) (pilot_sign_of (pilot_carrier k)) ∙ rw (polar, sign) refl)

pilot_there : (points : List Cx) (n k : ℕ) → k < 4 → symbol_bin points n (pilot_bin k) ≡ signed (sign_of_pilot n k)
unfolding symbol_bin
pilot_there points n k lt =
    let bin = pilot_bin k in
    let least : neg_ℤ (pos 32) ≤ℤ pilot_carrier k = omega (arith, ints) in
    let most : pilot_carrier k ≤ℤ pos 31 = omega (arith, ints) in
    ap (λ b. cond b (slice_index_or points (data_number_in bin) zero_pair) (pilot_at n (carrier_in bin))) (no_data k lt)
    ∙ ap (pilot_at n) (carrier_back (pilot_carrier k) least most)

-- ---- a turned symbol
module _ (modulation : Modulation) (turn : Cx) (points : List Cx) (number : ℕ) (first second symbol : List Cx) (turned : AreTurned (carrier_error modulation) turn points number first second symbol) where
  abbrev error : ℕ
  error = carrier_error modulation

  abbrev estimate : List Cx
  estimate = estimate_of first second

  abbrev told_turn : Cx
  told_turn = turn_by_pilots estimate symbol number

  estimated : (bin : ℕ) → bin < 64 → long_sign_of (carrier_in bin) *ℤ long_sign_of (carrier_in bin) ≡ pos 1 → IsEstimated 1048576 (2 * error) unturned (entry estimate bin)
  estimated bin lt one = estimated_by_bodies 1048576 error (λ _. unturned) first second bin lt one turned.near turned.next

  pilot : (k : ℕ) → k < 4 → IsPilot error turn estimate symbol number k
  pilot k lt =
      let bin = pilot_bin k in
      let below = pilot_bin-lt k lt in
      record {
        one = pilot_one number k lt;
        carries = subst (λ x. IsCarried 1048576 error turn x (entry symbol bin)) (pilot_there points number k lt) (turned.carries bin below);
        estimates = estimated bin below (square_of_one (long_sign_of (carrier_in bin)) (eqb-true _ _ (has_sign k lt)));
      }

  pub turn_told : IsOfSize (1048576 * turn_error modulation) (minus (multiple (pos 1048576) told_turn) (multiple (pos 16384) turn))
  turn_told =
      let b = bears modulation in
      let near = turn_near error (left_at_pilots modulation) (error_before modulation) turn estimate symbol number turned.is pilot b.leaves b.some b.few b.enough in
      let most = b.most in
      wider (1048576 * (1 + error_before modulation)) (1048576 * turn_error modulation) _ (omega (arith, most)) near

  pub data_over : (k : ℕ) → k < 48
      → IsOver 1048576 (16384 * error) (channel_error modulation) (16384 * 1048573) (multiple (pos 16384) turn) (entry points k) (entry (turned_carriers symbol) (data_bin k)) (entry (turned_channels told_turn estimate) (data_bin k))
  data_over k lt =
      let bin = data_bin k in
      let below = data_bin-lt k lt in
      let carried = subst (λ x. IsCarried 1048576 error turn x (entry symbol bin)) (point_there points number k lt) (turned.carries bin below) in
      record {
        carries = rw (carrier_entry symbol bin) (carried_more error turn (entry points k) (entry symbol bin) carried);
        estimates = rw (channel_entry told_turn estimate bin) (estimated_more (2 * error) (turn_error modulation) turn told_turn (entry estimate bin) turned.is (estimated bin below (sign_squared k lt)) turn_told);
        large = large_more turn turned.is;
      }

pub turn_is_told : TurnIsTold
turn_is_told modulation turn points number first second symbol turned = turn_told modulation turn points number first second symbol turned

pub decided_turned : DecidedTurned
unfolding interleaved_turned
decided_turned rate turn number bits first second symbol are long turned =
    let modulation = (row_of rate).modulation in
    let estimate = estimate_of first second in
    let told_turn = turn_by_pilots estimate symbol number in
    let b = bears modulation in
    symbol_decided rate 1048576 (16384 * carrier_error modulation) (channel_error modulation) (16384 * 1048573) (left_of_turned modulation) bits (λ _. multiple (pos 16384) turn)
    (turned_channels told_turn estimate) (turned_carriers symbol) are long b.allows (data_over modulation turn (points_of_code rate bits) number first second symbol turned)
