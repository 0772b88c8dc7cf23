-- How far apart the kept codes of two lists that end in six zeros are.
use Rattle.std.proofs.Common.{◌≡◌, ℕ, ◌*◌, ◌<◌, ◌≤◌, ◌==◌, ◌⊎◌, inl, inr, cond, not, List, length, map, slice_index, get_or, refl, ap, sym, ◌∙◌, arith}
use Rattle.std.specs.List.{range_with_len}
use Rattle.std.proofs.lemmas.List.{get_or-map}
use Rattle.std.proofs.lemmas.List.Elements.{All-map}
use Rattle.std.proofs.lemmas.Grind.{same_number_lists}
use Rattle.bit_lists.specs.Bits.{IsBit, AreBits, exclusive_or}
use Rattle.bit_lists.proofs.BitFacts.{IsBit-slice_index, on_two_bits}
use Rattle.rate_table.specs.declared.CodeRate.{CodeRate}
use Rattle.conv_code.specs.Code.{code_of}
use Rattle.conv_code.specs.Linear.{exclusive_ors}
use Rattle.conv_code.proofs.Coded.{Codes-code_of, AreBits-code_of}
use Rattle.conv_code.proofs.Linear.{length-exclusive_ors, slice_index-exclusive_ors, code_of-exclusive_ors}
use Rattle.puncture_map.specs.Kept.{kept_places, kept_count, kept_code}
use Rattle.puncture_map.proofs.KeptBits.{AreBits-kept_bits}
use Rattle.survivor_memory.specs.Nearest.{IsClosed}
use Rattle.kept_weights.specs.Weights.{kept_weight, distance_over, least_weight}
use Rattle.kept_weights.proofs.Sums.{sum_below, sum_by-range, sum_by-places, sum_below-same}
use Rattle.kept_weights.proofs.StepWeights.{length-kept_code}
use Rattle.kept_weights.proofs.Heavy.{ZeroBelow, closed_is_heavy}

-- a kept code has bits
pub AreBits-kept_code : (rate : CodeRate) (u : List ℕ) → AreBits (kept_code rate u)
AreBits-kept_code rate u = AreBits-kept_bits rate (code_of u) (length (code_of u)) (AreBits-code_of u)

-- the distance by places
pub distance_over-by_places : (n : ℕ) (a b : List ℕ) → distance_over n a b ≡ sum_below (λ k. cond (not (slice_index a k == slice_index b k)) 1 0) n
unfolding distance_over
distance_over-by_places n a b = sum_by-range (λ k. cond (not (slice_index a k == slice_index b k)) 1 0) n

-- the exclusive or of lists that end in six zeros ends in six zeros
closed-exclusive_ors : (n : ℕ) (u w : List ℕ) → IsClosed n u → IsClosed n w → IsClosed n (exclusive_ors u w)
closed-exclusive_ors n u w cu cw =
    let same : length u ≡ length w = omega (arith, cu.long, cw.long) in
    record {
      long = length-exclusive_ors u w ∙ cu.long;
      bits = All-map IsBit (λ i. exclusive_or (slice_index u i) (slice_index w i)) (range_with_len 0 (length u)) (λ k d _. omega arith);
      tail = λ place within last. slice_index-exclusive_ors u w same place ∙ rw (cu.tail place within last, cw.tail place within last);
    }

-- bits whose exclusive or is 0
same_bits : (a b : ℕ) → IsBit a → IsBit b → exclusive_or a b ≡ 0 → a ≡ b
same_bits a b p q e = omega arith

-- where it is 0, the lists are the same
same_where_zero : (n : ℕ) (u w : List ℕ) → IsClosed n u → IsClosed n w → ZeroBelow n (exclusive_ors u w) → u ≡ w
same_where_zero n u w cu cw zeros =
    let same : length u ≡ length w = omega (arith, cu.long, cw.long) in
    same_number_lists u w same
    (λ k within. same_bits (slice_index u k) (slice_index w k) (IsBit-slice_index u k cu.bits) (IsBit-slice_index w k cw.bits)
    (sym (slice_index-exclusive_ors u w same k) ∙ zeros k (omega (arith, cu.long))))

-- a kept bit is the bit at its place of the code
kept_code_at : (rate : CodeRate) (u : List ℕ) (n k : ℕ) → length u ≡ n → k < kept_count rate n → slice_index (kept_code rate u) k ≡ slice_index (code_of u) (get_or (kept_places rate (2 * n)) k 0)
kept_code_at rate u n k long within =
    let twice : length (code_of u) ≡ 2 * n = (Codes-code_of u).twice ∙ ap (λ m. 2 * m) long in
    ap (λ m. get_or (kept_bits_of m) k 0) twice
    ∙ get_or-map (slice_index (code_of u)) (kept_places rate (2 * n)) k 0 0 within
  where
    kept_bits_of : ℕ → List ℕ
    kept_bits_of m = map (slice_index (code_of u)) (kept_places rate m)

-- so the kept code of an exclusive or is the exclusive or of the kept codes
kept_code-exclusive_ors : (rate : CodeRate) (n : ℕ) (u w : List ℕ) → length u ≡ n → length w ≡ n → (k : ℕ) → k < kept_count rate n → slice_index (kept_code rate (exclusive_ors u w)) k ≡ exclusive_or (slice_index (kept_code rate u) k) (slice_index (kept_code rate w) k)
kept_code-exclusive_ors rate n u w long_u long_w k within =
    let same : length u ≡ length w = omega arith in
    let place = get_or (kept_places rate (2 * n)) k 0 in
    let codes_same : length (code_of u) ≡ length (code_of w) = omega (arith, (Codes-code_of u).twice, (Codes-code_of w).twice) in
    kept_code_at rate (exclusive_ors u w) n k (length-exclusive_ors u w ∙ long_u) within
    ∙ ap (λ code. slice_index code place) (code_of-exclusive_ors u w same)
    ∙ slice_index-exclusive_ors (code_of u) (code_of w) codes_same place
    ∙ rw (kept_code_at rate u n k long_u within, kept_code_at rate w n k long_w within)

-- their exclusive or is 1 where they differ
one_where_other : (a b : ℕ) → IsBit a → IsBit b → ◌≡◌ {A = ℕ} (cond (exclusive_or a b == 1) 1 0) (cond (not (a == b)) 1 0)
one_where_other = on_two_bits (λ a b. ◌≡◌ {A = ℕ} (cond (exclusive_or a b == 1) 1 0) (cond (not (a == b)) 1 0)) refl refl refl refl

-- and its kept weight is their distance
kept_weight-exclusive_ors : (rate : CodeRate) (n : ℕ) (u w : List ℕ) → length u ≡ n → length w ≡ n → kept_weight rate (exclusive_ors u w) ≡ distance_over (kept_count rate n) (kept_code rate u) (kept_code rate w)
kept_weight-exclusive_ors rate n u w long_u long_w =
    let x = exclusive_ors u w in
    let count : length (kept_code rate x) ≡ kept_count rate n = length-kept_code rate x ∙ ap (kept_count rate) (length-exclusive_ors u w ∙ long_u) in
    sum_by-places (λ bit. cond (bit == 1) 1 0) (kept_code rate x)
    ∙ ap (sum_below (λ k. cond (slice_index (kept_code rate x) k == 1) 1 0)) count
    ∙ sum_below-same (λ k. cond (slice_index (kept_code rate x) k == 1) 1 0) (λ k. cond (not (slice_index (kept_code rate u) k == slice_index (kept_code rate w) k)) 1 0) (kept_count rate n)
    (λ k within. ap (λ bit. cond (bit == 1) 1 0) (kept_code-exclusive_ors rate n u w long_u long_w k within) ∙ one_where_other _ _ (IsBit-slice_index (kept_code rate u) k (AreBits-kept_code rate u)) (IsBit-slice_index (kept_code rate w) k (AreBits-kept_code rate w)))
    ∙ sym (distance_over-by_places (kept_count rate n) (kept_code rate u) (kept_code rate w))

-- two lists of one length that end in six zeros are the same, or their kept codes are at least so far apart
pub same_or_far : (rate : CodeRate) (n : ℕ) (u w : List ℕ) → IsClosed n u → IsClosed n w → (u ≡ w) ⊎ (least_weight rate ≤ distance_over (kept_count rate n) (kept_code rate u) (kept_code rate w))
same_or_far rate n u w cu cw =
    elim (closed_is_heavy rate n (exclusive_ors u w) (closed-exclusive_ors n u w cu cw)) [
      | inl zeros ↦ inl (same_where_zero n u w cu cw zeros)
      | inr heavy ↦ (let weight = kept_weight-exclusive_ors rate n u w cu.long cw.long in inr (rw weight at heavy))
    ]

-- so other lists are so far apart
pub far_where_other : (rate : CodeRate) (n : ℕ) (u w : List ℕ) → IsClosed n u → IsClosed n w → (u ≡ w → ⊥) → least_weight rate ≤ distance_over (kept_count rate n) (kept_code rate u) (kept_code rate w)
far_where_other rate n u w cu cw other =
    elim (same_or_far rate n u w cu cw) [ inl same ↦ absurd (other same) | inr far ↦ far ]
