-- The table of polarities, by the recurrence of the sequence.
use Rattle.std.proofs.Common.{◌≡◌, ℕ, zero, suc, ◌+◌, ◌<◌, ap, sym, ◌∙◌, refl, arith, inl, inr}
use Rattle.std.proofs.lemmas.Bool.{cases_eq}
use Rattle.bit_lists.specs.Bits.{exclusive_or}
use Rattle.ofdm_scrambler.specs.Sequence.{from_minus_seven}

-- the recurrence of the sequence, at a place written as a sum
recurrence : (n : ℕ) → from_minus_seven 127 (n + 7) ≡ exclusive_or (from_minus_seven 127 n) (from_minus_seven 127 (n + 3))
unfolding from_minus_seven
recurrence n =
    let seven : suc (suc (suc (suc (suc (suc (suc n)))))) ≡ n + 7 = omega arith in
    let three : suc (suc (suc n)) ≡ n + 3 = omega arith in
    rw (← seven, ← three) refl

-- what begins as the sequence of seven ones does, and goes on by its recurrence for so many places, is that sequence
pub is_sequence : (f : ℕ → ℕ) (count : ℕ) → ((j : ℕ) → j < 7 → from_minus_seven 127 j ≡ f j) → ((k : ℕ) → k < count → f (k + 7) ≡ exclusive_or (f k) (f (k + 3))) → (j : ℕ) → j < count + 7 → from_minus_seven 127 j ≡ f j
is_sequence f zero begins goes j lt = begins j (omega arith)
is_sequence f (suc count) begins goes j lt =
    let so_far : (i : ℕ) → i < count + 7 → from_minus_seven 127 i ≡ f i =
    is_sequence f count begins (λ k below. goes k (omega arith)) in
    elim (cases_eq j (count + 7)) [
      | inl same ↦
          rw same
          (recurrence count ∙ ap (λ bit. exclusive_or bit (from_minus_seven 127 (count + 3))) (so_far count (omega arith))
          ∙ ap (exclusive_or (f count)) (so_far (count + 3) (omega arith)) ∙ sym (goes count (omega arith)))
      | inr other ↦ so_far j (omega arith)
    ]
