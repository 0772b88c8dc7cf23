-- The Gray code of places and the bits of levels.
use Rattle.std.proofs.Common.{◌≡◌, ℕ, zero, suc, ◌/◌, ◌^◌, ◌<◌, ◌≤◌, Bool, true, ◌&&◌, eqb, [], ◌∷◌, slice_index_or, ℤ, refl, arith}
use Rattle.std.specs.Prelude.{bit_and, bit_xor}
use Rattle.std.proofs.lemmas.Bool.{agree_below, agree_below_at, and_parts, eqb-true}
use Rattle.rate_table.specs.declared.Modulation.TheVariants.{Bpsk, Qpsk, Qam16, Qam64}
use Rattle.fixed_complex.specs.declared.Cx.{Cx}
use Rattle.constellations.specs.Decisions.{decided, thresholds_below}
use Rattle.constellations.specs.Axes.{gray_bit, level_bits}

-- what the code computes as a bit of the Gray code
abbrev computed_bit : ℕ → ℕ → ℕ
computed_bit place bit = bit_and (bit_xor place (place / 2) / 2 ^ bit) 1

abbrev agrees_at : ℕ → Bool
agrees_at place = eqb (computed_bit place 0) (gray_bit place 0) && (eqb (computed_bit place 1) (gray_bit place 1) && eqb (computed_bit place 2) (gray_bit place 2))

agrees : agree_below agrees_at (λ _. true) 8 ≡ true
agrees = refl

pub computed_bit-gray : (place bit : ℕ) → place < 8 → bit < 3 → computed_bit place bit ≡ gray_bit place bit
computed_bit-gray place zero h _ = eqb-true _ _ (and_parts _ _ (agree_below_at agrees_at (λ _. true) 8 place agrees h)).0
computed_bit-gray place (suc zero) h _ = eqb-true _ _ (and_parts _ _ (and_parts _ _ (agree_below_at agrees_at (λ _. true) 8 place agrees h)).1).0
computed_bit-gray place (suc (suc zero)) h _ = eqb-true _ _ (and_parts _ _ (and_parts _ _ (agree_below_at agrees_at (λ _. true) 8 place agrees h)).1).1
computed_bit-gray place (suc (suc (suc bit))) h k = absurd (omega arith)

-- the bits of the levels, from the lowest on, are the Gray code of their places
levels_2 : (p : ℕ) → p ≤ 1 → slice_index_or (level_bits Bpsk) p [] ≡ gray_bit p 0 ∷ []
levels_2 zero h = refl
levels_2 (suc zero) h = refl
levels_2 (suc (suc p)) h = absurd (omega arith)

levels_4 : (p : ℕ) → p ≤ 3 → slice_index_or (level_bits Qam16) p [] ≡ gray_bit p 1 ∷ gray_bit p 0 ∷ []
levels_4 zero h = refl
levels_4 (suc zero) h = refl
levels_4 (suc (suc zero)) h = refl
levels_4 (suc (suc (suc zero))) h = refl
levels_4 (suc (suc (suc (suc p)))) h = absurd (omega arith)

levels_8 : (p : ℕ) → p ≤ 7 → slice_index_or (level_bits Qam64) p [] ≡ gray_bit p 2 ∷ gray_bit p 1 ∷ gray_bit p 0 ∷ []
levels_8 zero h = refl
levels_8 (suc zero) h = refl
levels_8 (suc (suc zero)) h = refl
levels_8 (suc (suc (suc zero))) h = refl
levels_8 (suc (suc (suc (suc zero)))) h = refl
levels_8 (suc (suc (suc (suc (suc zero))))) h = refl
levels_8 (suc (suc (suc (suc (suc (suc zero)))))) h = refl
levels_8 (suc (suc (suc (suc (suc (suc (suc zero))))))) h = refl
levels_8 (suc (suc (suc (suc (suc (suc (suc (suc p)))))))) h = absurd (omega arith)

-- the decisions at the places of the levels that both axes reach
pub decided_bpsk : (z : Cx) (m : ℤ) (i : ℕ) → i ≡ thresholds_below Bpsk z.re m → i ≤ 1 → gray_bit i 0 ∷ 0 ∷ 0 ∷ 0 ∷ 0 ∷ 0 ∷ [] ≡ decided Bpsk z m
unfolding decided
decided_bpsk z m i place_i within_i = rw (← place_i, levels_2 i within_i) refl

pub decided_qpsk : (z : Cx) (m : ℤ) (i q : ℕ) → i ≡ thresholds_below Qpsk z.re m → i ≤ 1 → q ≡ thresholds_below Qpsk z.im m → q ≤ 1 → gray_bit i 0 ∷ gray_bit q 0 ∷ 0 ∷ 0 ∷ 0 ∷ 0 ∷ [] ≡ decided Qpsk z m
unfolding decided
decided_qpsk z m i q place_i within_i place_q within_q = rw (← place_i, ← place_q, levels_2 i within_i, levels_2 q within_q) refl

pub decided_16 : (z : Cx) (m : ℤ) (i q : ℕ) → i ≡ thresholds_below Qam16 z.re m → i ≤ 3 → q ≡ thresholds_below Qam16 z.im m → q ≤ 3 → gray_bit i 1 ∷ gray_bit i 0 ∷ gray_bit q 1 ∷ gray_bit q 0 ∷ 0 ∷ 0 ∷ [] ≡ decided Qam16 z m
unfolding decided
decided_16 z m i q place_i within_i place_q within_q = rw (← place_i, ← place_q, levels_4 i within_i, levels_4 q within_q) refl

pub decided_64 : (z : Cx) (m : ℤ) (i q : ℕ) → i ≡ thresholds_below Qam64 z.re m → i ≤ 7 → q ≡ thresholds_below Qam64 z.im m → q ≤ 7 → gray_bit i 2 ∷ gray_bit i 1 ∷ gray_bit i 0 ∷ gray_bit q 2 ∷ gray_bit q 1 ∷ gray_bit q 0 ∷ [] ≡ decided Qam64 z m
unfolding decided
decided_64 z m i q place_i within_i place_q within_q = rw (← place_i, ← place_q, levels_8 i within_i, levels_8 q within_q) refl
