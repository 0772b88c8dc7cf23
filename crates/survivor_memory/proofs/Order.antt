-- The order of lists by the last place where they differ.
use Rattle.std.proofs.Common.{◌≡◌, ℕ, zero, suc, ◌+◌, ◌-◌, ◌<◌, ◌≤◌, List, [], ◌∷◌, ◌++◌, length, get_or, ap, sym, ◌∙◌, ◌⊎◌, inl, inr, arith}
use Rattle.std.specs.Int.{bit_at}
use Rattle.std.proofs.lemmas.Bool.{cases_lt, cases_eq}
use Rattle.std.proofs.lemmas.List.{length_push, get_or_push, get_or_append_left, get_or_past}
use Rattle.conv_code.specs.Code.{earlier}
use Rattle.conv_code.proofs.Inputs.{BitsOfState, bits_of_state_before, earlier_before, earlier_inside}
use Rattle.survivor_memory.specs.Nearest.{ComesBefore, IsFirstOfLeast}
use Rattle.survivor_memory.specs.Survivors.{LeadsTo}

-- what holds of 1 to 6 each
pub one_to_six : (P : ℕ → Type 0) → P 1 → P 2 → P 3 → P 4 → P 5 → P 6 → (k : ℕ) → 1 ≤ k → k ≤ 6 → P k
one_to_six P one two three four five six zero low high = absurd (omega arith)
one_to_six P one two three four five six (suc zero) low high = one
one_to_six P one two three four five six (suc (suc zero)) low high = two
one_to_six P one two three four five six (suc (suc (suc zero))) low high = three
one_to_six P one two three four five six (suc (suc (suc (suc zero)))) low high = four
one_to_six P one two three four five six (suc (suc (suc (suc (suc zero))))) low high = five
one_to_six P one two three four five six (suc (suc (suc (suc (suc (suc zero)))))) low high = six
one_to_six P one two three four five six (suc (suc (suc (suc (suc (suc (suc k))))))) low high = absurd (omega arith)

-- the order of two lists is the same with one more input behind both
pub comes_before_push : (u v : List ℕ) (x : ℕ) → length u ≡ length v → ComesBefore u v → ComesBefore (u ++ x ∷ []) (v ++ x ∷ [])
comes_before_push u v x same before =
    let place = before.place in
    let in_u : (k : ℕ) → k < length u → get_or (u ++ x ∷ []) k 0 ≡ get_or u k 0 = λ k h. get_or_append_left u (x ∷ []) 0 k h in
    let in_v : (k : ℕ) → k < length u → get_or (v ++ x ∷ []) k 0 ≡ get_or v k 0 = λ k h. get_or_append_left v (x ∷ []) 0 k (omega arith) in
    record {
      place = place;
      within = omega (arith, length_push u x, before.within);
      zero = in_u place before.within ∙ before.zero;
      one = in_v place before.within ∙ before.one;
      same_behind = λ later behind within.
          elim (cases_lt later (length u)) [
            | inl inside ↦ in_u later inside ∙ before.same_behind later behind inside ∙ sym (in_v later inside)
            | inr last ↦ get_or_push u x 0 later (omega (arith, length_push u x)) ∙ sym (get_or_push v x 0 later (omega (arith, length_push u x)))
          ];
    }

pub not_after_push : (u v : List ℕ) (x : ℕ) → length u ≡ length v → (u ≡ v) ⊎ ComesBefore u v → (u ++ x ∷ [] ≡ v ++ x ∷ []) ⊎ ComesBefore (u ++ x ∷ []) (v ++ x ∷ [])
not_after_push u v x same (inl e) = inl (ap (λ w. w ++ x ∷ []) e)
not_after_push u v x same (inr before) = inr (comes_before_push u v x same before)

-- the bits of two states that differ in bit 5 alone
record DifferAtSix (low high : ℕ) : Type 0 where
  same_one : bit_at high 0 ≡ bit_at low 0
  same_two : bit_at high 1 ≡ bit_at low 1
  same_three : bit_at high 2 ≡ bit_at low 2
  same_four : bit_at high 3 ≡ bit_at low 3
  same_five : bit_at high 4 ≡ bit_at low 4
  low_six : bit_at low 5 ≡ 0
  high_six : bit_at high 5 ≡ 1

differ_at_six : (p : ℕ) → p < 32 → DifferAtSix p (p + 32)
differ_at_six p h = record {
  same_one = omega arith;
  same_two = omega arith;
  same_three = omega arith;
  same_four = omega arith;
  same_five = omega arith;
  low_six = omega arith;
  high_six = omega arith;
}

-- of two lists to such states, the one with the input 0 six steps ago comes before
pub comes_before_six_ago : (n p : ℕ) (u v : List ℕ) → p < 32 → LeadsTo n p u → LeadsTo n (p + 32) v → ComesBefore u v
comes_before_six_ago n p u v h to_low to_high =
    let differ = differ_at_six p h in
    let low : BitsOfState p (earlier u n 1) (earlier u n 2) (earlier u n 3) (earlier u n 4) (earlier u n 5) (earlier u n 6) = rw to_low.ends at (bits_of_state_before u n to_low.bits) in
    let high : BitsOfState (p + 32) (earlier v n 1) (earlier v n 2) (earlier v n 3) (earlier v n 4) (earlier v n 5) (earlier v n 6) = rw to_high.ends at (bits_of_state_before v n to_high.bits) in
    let one : earlier v n 6 ≡ 1 = sym high.six_ago ∙ differ.high_six in
    let zero_there : earlier u n 6 ≡ 0 = sym low.six_ago ∙ differ.low_six in
    let same : (k : ℕ) → 1 ≤ k → k ≤ 6 → k ≤ 5 → earlier u n k ≡ earlier v n k =
    one_to_six (λ k. k ≤ 5 → earlier u n k ≡ earlier v n k)
    (λ _. sym low.one_ago ∙ sym differ.same_one ∙ high.one_ago)
    (λ _. sym low.two_ago ∙ sym differ.same_two ∙ high.two_ago)
    (λ _. sym low.three_ago ∙ sym differ.same_three ∙ high.three_ago)
    (λ _. sym low.four_ago ∙ sym differ.same_four ∙ high.four_ago)
    (λ _. sym low.five_ago ∙ sym differ.same_five ∙ high.five_ago)
    (λ few. absurd (omega arith)) in
    let long : 6 ≤ n = elim (cases_lt n 6) [ inl short ↦ absurd (omega (arith, earlier_before v n 6 short)) | inr long ↦ long ] in
    record {
      place = n - 6;
      within = omega (arith, to_low.long);
      zero = sym (earlier_inside u n 6 long) ∙ zero_there;
      one = sym (earlier_inside v n 6 long) ∙ one;
      same_behind = λ later behind within.
          let within_n : later < n = omega (arith, to_low.long) in
          let back : n - (n - later) ≡ later = omega arith in
          rw back at (sym (earlier_inside u n (n - later) (omega arith)) ∙ same (n - later) (omega arith) (omega arith) (omega arith) ∙ earlier_inside v n (n - later) (omega arith));
    }

-- no two lists come before each other
not_both_before : (u v : List ℕ) → ComesBefore u v → ComesBefore v u → ⊥
not_both_before u v one other =
    elim (cases_lt one.place other.place) [
      | inl less ↦ elim (cases_lt other.place (length u)) [
        | inl inside ↦ omega (arith, one.same_behind other.place less inside, other.zero, other.one)
        | inr past ↦ omega (arith, get_or_past u other.place 0 past, other.one)
      ]
      | inr more ↦ elim (cases_eq one.place other.place) [
        | inl same ↦ let zero_there : get_or u other.place 0 ≡ 0 = rw same at one.zero in omega (arith, zero_there, other.one)
        | inr apart ↦ elim (cases_lt one.place (length v)) [
          | inl inside ↦ omega (arith, other.same_behind one.place (omega arith) inside, one.zero, one.one)
          | inr past ↦ omega (arith, get_or_past v one.place 0 past, one.one)
        ]
      ]
    ]

-- of a kind there is one first list of least cost, and one least cost
pub one_first : (IsOfKind : List ℕ → Type 0) (measure : List ℕ → ℕ) (u v : List ℕ) (d e : ℕ) → IsFirstOfLeast IsOfKind measure u d → IsFirstOfLeast IsOfKind measure v e → (u ≡ v) × (d ≡ e)
one_first IsOfKind measure u v d e first second =
    let same : d ≡ e = omega (arith, first.none_less v second.of_kind, second.none_less u first.of_kind, first.costs, second.costs) in (
      elim (first.comes_first v second.of_kind (omega (arith, second.costs))) [
        | inl e ↦ e
        | inr before ↦ elim (second.comes_first u first.of_kind (omega (arith, first.costs))) [
          | inl e ↦ sym e
          | inr after ↦ absurd (not_both_before u v before after)
        ]
      ],
      same,
    )
