-- The sequence comes again after 127 places.
use Rattle.std.proofs.Common.{◌≡◌, ℕ, zero, suc, ◌+◌, ◌*◌, ◌%◌, ◌<◌, true, nat_eq, ap, sym, subst, ◌∙◌, refl, arith}
use Rattle.std.proofs.lemmas.Bool.{agree_below_at, eqb-true}
use Rattle.bit_lists.specs.Bits.{exclusive_or}
use Rattle.std.specs.Int.{bit_at}
use Rattle.ofdm_scrambler.specs.Sequence.{from_minus_seven, scrambler_bit}
use Rattle.ofdm_scrambler.proofs.LastSeven.{HoldsBefore, HoldsBefore-more, next_bit_is, scrambler_bit_is}

-- the bit that a register makes, and the register that has taken it in
abbrev made : ℕ → ℕ
made register = exclusive_or (bit_at register 6) (bit_at register 3)

abbrev next : ℕ → ℕ
next register = (2 * register + made register) % 128

-- a register after so many bits
after : ℕ → ℕ → ℕ
after zero register = register
after (suc count) register = after count (next register)

-- a register that holds the bits before a place holds those before a later place after as many bits
HoldsBefore-after : (count number n register : ℕ) → HoldsBefore number n register → register < 128 → HoldsBefore number (n + count) (after count register)
unfolding after
HoldsBefore-after zero number n register held seven = let same : n + 0 ≡ n = omega arith in rw same held
HoldsBefore-after (suc count) number n register held seven =
    let later : n + suc count ≡ n + 1 + count = omega arith in
    let is = next_bit_is number n register (made register) held refl in
    rw later (HoldsBefore-after count number (n + 1) (next register) (HoldsBefore-more number n register (made register) (next register) held seven is refl) (omega arith))

-- after 127 bits each register is again what it was
comes_again : (number : ℕ) → number < 128 → after 127 number ≡ number
unfolding after
comes_again number lt = eqb-true _ _ (agree_below_at (λ number. nat_eq (after 127 number) number) (λ number. true) 128 number refl lt)

-- before place 0 stand the seven lowest bits of the number
HoldsBefore-lowest : (number : ℕ) → HoldsBefore number 0 (number % 128)
unfolding from_minus_seven
HoldsBefore-lowest number = record {
  one_ago = omega arith;
  two_ago = omega arith;
  three_ago = omega arith;
  four_ago = omega arith;
  five_ago = omega arith;
  six_ago = omega arith;
  seven_ago = omega arith;
}

held_again : (number : ℕ) → HoldsBefore number 127 (number % 128)
held_again number =
    let small : number % 128 < 128 = omega arith in
    let held = HoldsBefore-after 127 number 0 (number % 128) (HoldsBefore-lowest number) small in
    subst (HoldsBefore number 127) (comes_again (number % 128) small) held

one_period : (number k : ℕ) → from_minus_seven number (127 + k) ≡ from_minus_seven number k
unfolding from_minus_seven
one_period number zero = sym (held_again number).seven_ago ∙ (HoldsBefore-lowest number).seven_ago
one_period number (suc zero) = sym (held_again number).six_ago ∙ (HoldsBefore-lowest number).six_ago
one_period number (suc (suc zero)) = sym (held_again number).five_ago ∙ (HoldsBefore-lowest number).five_ago
one_period number (suc (suc (suc zero))) = sym (held_again number).four_ago ∙ (HoldsBefore-lowest number).four_ago
one_period number (suc (suc (suc (suc zero)))) = sym (held_again number).three_ago ∙ (HoldsBefore-lowest number).three_ago
one_period number (suc (suc (suc (suc (suc zero))))) = sym (held_again number).two_ago ∙ (HoldsBefore-lowest number).two_ago
one_period number (suc (suc (suc (suc (suc (suc zero)))))) = sym (held_again number).one_ago ∙ (HoldsBefore-lowest number).one_ago
one_period number (suc (suc (suc (suc (suc (suc (suc k))))))) =
    let here : 127 + suc (suc (suc (suc (suc (suc (suc k)))))) ≡ 127 + k + 7 = omega arith in
    let three : 127 + k + 3 ≡ 127 + suc (suc (suc k)) = omega arith in
    ap (from_minus_seven number) here
    ∙ scrambler_bit_is number (127 + k)
    ∙ ap (λ n. exclusive_or (from_minus_seven number (127 + k)) (from_minus_seven number n)) three
    ∙ ap (λ bit. exclusive_or bit (from_minus_seven number (127 + suc (suc (suc k))))) (one_period number k)
    ∙ ap (exclusive_or (from_minus_seven number k)) (one_period number (suc (suc (suc k))))

-- the bit so many periods behind a place is the bit of the place
pub scrambler_bit_again : (number periods k : ℕ) → scrambler_bit number (127 * periods + k) ≡ scrambler_bit number k
scrambler_bit_again number zero k = let same : 127 * 0 + k ≡ k = omega arith in ap (scrambler_bit number) same
scrambler_bit_again number (suc periods) k =
    let later : 127 * suc periods + k + 7 ≡ 127 + (127 * periods + k + 7) = omega arith in
    ap (from_minus_seven number) later
    ∙ one_period number (127 * periods + k + 7)
    ∙ scrambler_bit_again number periods k
