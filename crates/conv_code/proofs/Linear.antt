-- That the code is linear.
use Rattle.std.proofs.Common.{◌≡◌, ℕ, ◌+◌, ◌-◌, ◌*◌, ◌/◌, ◌%◌, ◌<◌, ◌≤◌, List, length, slice_index, get_or, sym, ◌∙◌, subst, inl, inr, arith}
use Rattle.std.proofs.lemmas.Bool.{cases_lt, cases_eq}
use Rattle.std.proofs.lemmas.List.{get_or_past}
use Rattle.std.proofs.lemmas.List.FromFn.{length-map-range_with_len, get_or-map-range_with_len}
use Rattle.std.proofs.lemmas.Grind.{same_number_lists}
use Rattle.bit_lists.specs.Bits.{exclusive_or}
use Rattle.conv_code.specs.Code.{earlier, parity_a, parity_b, Codes, code_of}
use Rattle.conv_code.specs.Linear.{exclusive_ors}
use Rattle.conv_code.proofs.Inputs.{earlier_before, earlier_inside}
use Rattle.conv_code.proofs.Coded.{Codes-code_of}

-- as long as the first list
pub length-exclusive_ors : (u v : List ℕ) → length (exclusive_ors u v) ≡ length u
length-exclusive_ors u v = length-map-range_with_len (λ i. exclusive_or (slice_index u i) (slice_index v i)) 0 (length u)

-- at each place, and past the end, where all is 0
pub slice_index-exclusive_ors : (u v : List ℕ) → length u ≡ length v → (k : ℕ) → slice_index (exclusive_ors u v) k ≡ exclusive_or (slice_index u k) (slice_index v k)
slice_index-exclusive_ors u v same k =
    elim (cases_lt k (length u)) [
      | inl within ↦ get_or-map-range_with_len (λ i. exclusive_or (slice_index u i) (slice_index v i)) 0 (length u) k k 0 within (omega arith)
      | inr past ↦
          let past_both : length (exclusive_ors u v) ≤ k = omega (arith, length-exclusive_ors u v) in
          let past_v : length v ≤ k = omega arith in
          rw (get_or_past (exclusive_ors u v) k 0 past_both, get_or_past u k 0 past, get_or_past v k 0 past_v)
    ]

-- so it is with the inputs before a place
earlier-exclusive_ors : (u v : List ℕ) → length u ≡ length v → (i steps : ℕ) → earlier (exclusive_ors u v) i steps ≡ exclusive_or (earlier u i steps) (earlier v i steps)
earlier-exclusive_ors u v same i steps =
    elim (cases_lt i steps) [
      | inl before ↦ rw (earlier_before (exclusive_ors u v) i steps before, earlier_before u i steps before, earlier_before v i steps before)
      | inr inside ↦ rw (earlier_inside (exclusive_ors u v) i steps inside, earlier_inside u i steps inside, earlier_inside v i steps inside) (slice_index-exclusive_ors u v same (i - steps))
    ]

-- five exclusive ors, summed
sum_of_five : (a b c d e p q r s t : ℕ) → ((a + p) % 2 + (b + q) % 2 + (c + r) % 2 + (d + s) % 2 + (e + t) % 2) % 2 ≡ ((a + b + c + d + e) % 2 + (p + q + r + s + t) % 2) % 2
sum_of_five a b c d e p q r s t = omega arith

-- and so with the parities
parity_a-exclusive_ors : (u v : List ℕ) → length u ≡ length v → (i : ℕ) → parity_a (exclusive_ors u v) i ≡ exclusive_or (parity_a u i) (parity_a v i)
unfolding parity_a
parity_a-exclusive_ors u v same i =
    let at = earlier-exclusive_ors u v same i in
    rw (at 0, at 2, at 3, at 5, at 6) (sum_of_five _ _ _ _ _ _ _ _ _ _)

-- B as A
parity_b-exclusive_ors : (u v : List ℕ) → length u ≡ length v → (i : ℕ) → parity_b (exclusive_ors u v) i ≡ exclusive_or (parity_b u i) (parity_b v i)
unfolding parity_b
parity_b-exclusive_ors u v same i =
    let at = earlier-exclusive_ors u v same i in
    rw (at 0, at 1, at 2, at 3, at 6) (sum_of_five _ _ _ _ _ _ _ _ _ _)

-- what holds of both places of each pair holds of all
each_place : (P : ℕ → Type 0) (n : ℕ) → ((i : ℕ) → i < n → P (2 * i)) → ((i : ℕ) → i < n → P (2 * i + 1)) → (k : ℕ) → k < 2 * n → P k
each_place P n even odd k h =
    elim (cases_eq (k % 2) 0) [
      | inl is_even ↦ let e : 2 * (k / 2) ≡ k = omega arith in subst P e (even (k / 2) (omega arith))
      | inr is_odd ↦ let e : 2 * (k / 2) + 1 ≡ k = omega arith in subst P e (odd (k / 2) (omega arith))
    ]

-- a list has one code
pub same_from_Codes : (code u : List ℕ) → Codes code u → code ≡ code_of u
same_from_Codes code u codes =
    let the_code = Codes-code_of u in
    same_number_lists code (code_of u) (omega (arith, codes.twice, the_code.twice))
    (λ k within. each_place (λ k. get_or code k 0 ≡ get_or (code_of u) k 0) (length u)
    (λ i h. codes.a i h ∙ sym (the_code.a i h))
    (λ i h. codes.b i h ∙ sym (the_code.b i h))
    k (omega (arith, codes.twice)))

-- the exclusive or of two codes codes the exclusive or
Codes-exclusive_ors : (u v : List ℕ) → length u ≡ length v → Codes (exclusive_ors (code_of u) (code_of v)) (exclusive_ors u v)
Codes-exclusive_ors u v same =
    let code_u = Codes-code_of u in
    let code_v = Codes-code_of v in
    let long : length (exclusive_ors u v) ≡ length u = length-exclusive_ors u v in
    let same_codes : length (code_of u) ≡ length (code_of v) = omega (arith, code_u.twice, code_v.twice) in
    record {
      twice = omega (arith, length-exclusive_ors (code_of u) (code_of v), code_u.twice);
      a = λ i h. rw (slice_index-exclusive_ors (code_of u) (code_of v) same_codes (2 * i), code_u.a i (omega arith), code_v.a i (omega arith), parity_a-exclusive_ors u v same i);
      b = λ i h. rw (slice_index-exclusive_ors (code_of u) (code_of v) same_codes (2 * i + 1), code_u.b i (omega arith), code_v.b i (omega arith), parity_b-exclusive_ors u v same i);
    }

-- so it is their code
pub code_of-exclusive_ors : (u v : List ℕ) → length u ≡ length v → code_of (exclusive_ors u v) ≡ exclusive_ors (code_of u) (code_of v)
code_of-exclusive_ors u v same = sym (same_from_Codes _ _ (Codes-exclusive_ors u v same))
