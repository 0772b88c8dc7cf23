-- The laws of the turns, each computed at all places of the table.
use Rattle.std.proofs.Common.{◌≡◌, ◌≢◌, ℕ, ◌+◌, ◌-◌, ◌*◌, ◌%◌, ◌^◌, ◌≤◌, ◌∙◌, ap, sym, subst, true, nat_le, refl, arith, pos, unsigned_abs}
use Rattle.std.proofs.lemmas.Bool.{agree_below, agree_below_at, leb-true}
use Rattle.fixed_complex.specs.declared.Cx.{Cx}
use Rattle.fixed_complex.specs.Laws.{sum_below}
use Rattle.fixed_complex.specs.Pairs.{IsOfSize, IsWithin, minus, multiple, times, zero_pair}
use Rattle.fixed_complex.specs.Turns.{turn_at}
use Rattle.fixed_complex.proofs.ByTable.{same_pairs, are_same, within_test, is_within, size_test, is_of_size}
use Rattle.fixed_complex.proofs.Sums.{same_sums}
use Rattle.fixed_complex.proofs.Turning.{same_turn, turn_in_table, turns_of_products}

-- ---- half and quarter turns
pub turn-half : (m : ℕ) → turn_at (m + 32) ≡ minus zero_pair (turn_at m)
unfolding turn_at
turn-half m =
    same_turn (m + 32) (m % 64 + 32) (omega arith)
    ∙ are_same _ _ (agree_below_at (λ k. same_pairs (turn_at (k + 32)) (minus zero_pair (turn_at k))) (λ _. true) 64 (m % 64) refl (omega arith))
    ∙ ap (minus zero_pair) (sym (turn_in_table m))

pub turn-quarter : (m : ℕ) → turn_at (m + 16) ≡ times (turn_at m) (record { re = pos 0; im = pos 1 })
unfolding turn_at times
turn-quarter m =
    same_turn (m + 16) (m % 64 + 16) (omega arith)
    ∙ are_same _ _ (agree_below_at (λ k. same_pairs (turn_at (k + 16)) (times (turn_at k) (record { re = pos 0; im = pos 1 }))) (λ _. true) 64 (m % 64) refl (omega arith))
    ∙ ap (λ t. times t (record { re = pos 0; im = pos 1 })) (sym (turn_in_table m))

-- ---- the sum over a turn
pub sum-over_a_turn : (d : ℕ) → d % 64 ≢ 0 → sum_below 64 (λ n. turn_at (d * n)) ≡ zero_pair
unfolding turn_at sum_below
sum-over_a_turn d not_a_turn =
    let at_least_one : 1 ≤ d % 64 = omega arith in
    let place : d % 64 - 1 + 1 ≡ d % 64 = omega arith in
    same_sums (λ n. turn_at (d * n)) (λ n. turn_at ((d % 64) * n)) (turns_of_products d) 64
    ∙ ap (λ k. sum_below 64 (λ n. turn_at (k * n))) (sym place)
    ∙ are_same _ _ (agree_below_at (λ k. same_pairs (sum_below 64 (λ n. turn_at ((k + 1) * n))) zero_pair) (λ _. true) 63 (d % 64 - 1) refl (omega arith))

-- ---- the product of two turns
-- how far it is from their joint turn
abbrev error : ℕ → ℕ → Cx
error a b = minus (times (turn_at a) (turn_at b)) (multiple (pos (2 ^ 20)) (turn_at (a + b)))

same_error : (a b : ℕ) → error a b ≡ error (a % 64) (b % 64)
same_error a b = rw (turn_in_table a, turn_in_table b, same_turn (a + b) (a % 64 + b % 64) (omega arith)) refl

pub within-product_of_turns : (a b : ℕ) → IsWithin (2 ^ 21) (minus (times (turn_at a) (turn_at b)) (multiple (pos (2 ^ 20)) (turn_at (a + b))))
unfolding turn_at times
within-product_of_turns a b =
    rw (same_error a b) (is_within _ _ (agree_below_at (λ j. within_test (2 ^ 21) (error (a % 64) j)) (λ _. true) 64 (b % 64) (agree_below_at (λ k. agree_below (λ j. within_test (2 ^ 21) (error k j)) (λ _. true) 64) (λ _. true) 64 (a % 64) refl (omega arith)) (omega arith)))

pub size-product_of_turns : (a b : ℕ) → IsOfSize 1387885 (minus (times (turn_at a) (turn_at b)) (multiple (pos (2 ^ 20)) (turn_at (a + b))))
unfolding turn_at times
size-product_of_turns a b =
    rw (same_error a b) (is_of_size _ _ (agree_below_at (λ j. size_test 1387885 (error (a % 64) j)) (λ _. true) 64 (b % 64) (agree_below_at (λ k. agree_below (λ j. size_test 1387885 (error k j)) (λ _. true) 64) (λ _. true) 64 (a % 64) refl (omega arith)) (omega arith)))

-- ---- the sizes of turns
-- no component of a turn is larger than 2^20
pub turn-within : (m : ℕ) → IsWithin (2 ^ 20) (turn_at m)
unfolding turn_at
turn-within m =
    rw (turn_in_table m) (is_within _ _ (agree_below_at (λ k. within_test (2 ^ 20) (turn_at k)) (λ _. true) 64 (m % 64) refl (omega arith)))

-- the sizes of the components sum to at most 1482910
pub turn-sum : (m : ℕ) → unsigned_abs (turn_at m).re + unsigned_abs (turn_at m).im ≤ 1482910
unfolding turn_at
turn-sum m =
    let P : Cx → Type 0 = λ t. unsigned_abs t.re + unsigned_abs t.im ≤ 1482910 in
    subst P (sym (turn_in_table m)) (leb-true _ _ (agree_below_at (λ k. nat_le (unsigned_abs (turn_at k).re + unsigned_abs (turn_at k).im) 1482910) (λ _. true) 64 (m % 64) refl (omega arith)))

-- no turn is larger than 1048577
pub turn-size : (m : ℕ) → IsOfSize 1048577 (turn_at m)
unfolding turn_at
turn-size m =
    rw (turn_in_table m) (is_of_size _ _ (agree_below_at (λ k. size_test 1048577 (turn_at k)) (λ _. true) 64 (m % 64) refl (omega arith)))
