use Rattle.std.proofs.Common.{◌≡◌, ℕ, ◌+◌, ◌*◌, ◌∙◌, ap, sym, arith}
use Rattle.ofdm_scrambler.specs.Sequence.{from_minus_seven, scrambler_sequence}
use Rattle.ofdm_scrambler.proofs.Fronts.{number_is, number_of_front, number_of_sequence, begins_with}
use Rattle.ofdm_scrambler.proofs.seed_of_front.Goals as goal

-- the number that the code makes
abbrev made : goal.After-sum_of_bits-x7 → ℕ
made c =
    c.sum_of_bits-x1.result + 2 * c.sum_of_bits-x2.result + 4 * c.sum_of_bits-x3.result + 8 * c.sum_of_bits-x4.result + 16 * c.sum_of_bits-x5.result + 32 * c.sum_of_bits-x6.result + 64 * c.sum_of_bits-x7.result

made_is : (c : goal.After-sum_of_bits-x7) → made c ≡ number_of_front c.args.front.now
made_is c =
    number_is c.args.front.now _ _ _ _ _ _ _ c.sum_of_bits-x1.ensures.value c.sum_of_bits-x2.ensures.value c.sum_of_bits-x3.ensures.value c.sum_of_bits-x4.ensures.value c.sum_of_bits-x5.ensures.value c.sum_of_bits-x6.ensures.value c.sum_of_bits-x7.ensures.value

pub returns-clause-begins : goal.returns-clause-begins
returns-clause-begins c =
    ap (λ number. scrambler_sequence number 7) (made_is c) ∙ begins_with c.args.front.now c.told-front (λ i lt. c.requires i 0 (omega arith))

pub returns-clause-no_other : goal.returns-clause-no_other
returns-clause-no_other c = λ number small same. sym (number_of_sequence number (omega arith)) ∙ ap number_of_front same ∙ sym (made_is c)

pub returns-clause-zero : goal.returns-clause-zero
unfolding from_minus_seven
returns-clause-zero c = (
  λ is_zero. sym (returns-clause-begins c) ∙ ap (λ number. scrambler_sequence number 7) is_zero,
  λ zeros. made_is c ∙ ap number_of_front zeros,
)
