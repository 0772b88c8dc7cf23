use Rattle.std.proofs.Common.{◌≡◌, ℕ, ◌+◌, ◌-◌, ◌*◌, ◌++◌, List, length, get_or, replicate, bit_xor, ap, inl, inr, sym, ◌∙◌, arith}
use Rattle.std.proofs.Math.ListN.{length-set}
use Rattle.std.specs.List.{flat_map, range_with_len}
use Rattle.std.proofs.lemmas.Bool.{cases_lt}
use Rattle.std.proofs.lemmas.List.{get_or_append_left, get_or-append-add, length-append, take_all}
use Rattle.std.proofs.lemmas.Simd.{get_or-replicate}
use Rattle.bit_lists.specs.Bits.{AreBits}
use Rattle.bit_lists.proofs.BitFacts.{IsBit-slice_index}
use Rattle.conv_code.specs.Code.{earlier, parities, parity_a, parity_b}
use Rattle.conv_code.proofs.Coded.{coded_more}
use Rattle.conv_code.proofs.ExclusiveOr.{bit_xor_of_five}
use Rattle.conv_code.proofs.Inputs.{earlier_before, earlier_inside}
use Rattle.conv_code.proofs.put_code.Goals as goal

-- behind six zeros stand the inputs before a place
input_is : (u inputs : List ℕ) (i steps k : ℕ) → inputs ≡ replicate 6 0 ++ u → k + steps ≡ i + 6 → get_or inputs k 0 ≡ earlier u i steps
input_is u inputs i steps k behind at =
    elim (cases_lt i steps) [
      | inl before ↦
          rw (behind, earlier_before u i steps before)
          (get_or_append_left (replicate 6 0) u 0 k (omega arith) ∙ get_or-replicate {A = ℕ} 6 k 0 0 (omega arith))
      | inr inside ↦
          let place : k ≡ 6 + (i - steps) = omega arith in
          rw (behind, earlier_inside u i steps inside, place) (get_or-append-add (replicate 6 0) u (i - steps) 0)
    ]

-- the two parities
a_is : (u inputs : List ℕ) (i : ℕ) → AreBits inputs → inputs ≡ replicate 6 0 ++ u
    → bit_xor (bit_xor (bit_xor (bit_xor (get_or inputs (i + 6) 0) (get_or inputs (i + 4) 0)) (get_or inputs (i + 3) 0)) (get_or inputs (i + 1) 0)) (get_or inputs i 0) ≡ parity_a u i
unfolding parity_a
a_is u inputs i bits behind =
    let bit = λ (k : ℕ). IsBit-slice_index inputs k bits in
    let at = λ (steps k : ℕ) (e : k + steps ≡ i + 6). input_is u inputs i steps k behind e in
    bit_xor_of_five _ _ _ _ _ (bit (i + 6)) (bit (i + 4)) (bit (i + 3)) (bit (i + 1)) (bit i)
    ∙ rw (at 0 (i + 6) (omega arith), at 2 (i + 4) (omega arith), at 3 (i + 3) (omega arith), at 5 (i + 1) (omega arith), at 6 i (omega arith))

b_is : (u inputs : List ℕ) (i : ℕ) → AreBits inputs → inputs ≡ replicate 6 0 ++ u
    → bit_xor (bit_xor (bit_xor (bit_xor (get_or inputs (i + 6) 0) (get_or inputs (i + 5) 0)) (get_or inputs (i + 4) 0)) (get_or inputs (i + 3) 0)) (get_or inputs i 0) ≡ parity_b u i
unfolding parity_b
b_is u inputs i bits behind =
    let bit = λ (k : ℕ). IsBit-slice_index inputs k bits in
    let at = λ (steps k : ℕ) (e : k + steps ≡ i + 6). input_is u inputs i steps k behind e in
    bit_xor_of_five _ _ _ _ _ (bit (i + 6)) (bit (i + 5)) (bit (i + 4)) (bit (i + 3)) (bit i)
    ∙ rw (at 0 (i + 6) (omega arith), at 1 (i + 5) (omega arith), at 2 (i + 4) (omega arith), at 3 (i + 3) (omega arith), at 6 i (omega arith))

pub loop-i-preserved : goal.loop-i-preserved
loop-i-preserved c = record {
  long = omega (arith, length-set {A = ℕ}, c.loop-i.invariant.long);
  coded = λ u behind.
      coded_more u c.loop-i.code c.loop-i.i _ _ (omega (arith, c.loop-i.invariant.long)) (a_is u c.args.inputs.now c.loop-i.i c.requires.bits behind)
      (b_is u c.args.inputs.now c.loop-i.i c.requires.bits behind) (c.loop-i.invariant.coded u behind);
}

pub returns : goal.returns
returns c = λ u behind.
    let long : length c.args.inputs.now ≡ 6 + length u = ap length behind ∙ length-append (replicate 6 0) u in
    let all : c.loop-i.i ≡ length u = omega (arith, c.requires.places, long) in
    sym (take_all (2 * c.loop-i.i) c.loop-i.code (omega (arith, c.loop-i.invariant.long, c.requires.places, long)))
    ∙ c.loop-i.invariant.coded u behind
    ∙ ap (λ n. flat_map (parities u) (range_with_len 0 n)) all
