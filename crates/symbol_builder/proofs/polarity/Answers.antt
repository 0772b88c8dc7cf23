use Rattle.std.proofs.Common.{◌≡◌, ℕ, ◌+◌, ◌-◌, ◌%◌, ◌<◌, ◌∙◌, true, ap, sym, refl, get_or, nat_eq, nat_lt, if◌then◌else◌, ℤ, pos, negsuc, w64, to_z, of_z, arith}
use Rattle.std.proofs.lemmas.Bool.{eqb-true, agree_below_at}
use Rattle.bit_lists.specs.Bits.{exclusive_or}
use Rattle.ofdm_scrambler.specs.Sequence.{from_minus_seven}
use Rattle.symbol_builder.specs.declared.TheConstants.{POLARITIES}
use Rattle.symbol_builder.specs.Carriers.{polarity_of}
use Rattle.symbol_builder.proofs.Polarities.{is_sequence}
use Rattle.fixed_complex.proofs.ByTable.{is_same, same_number}
use Rattle.symbol_builder.proofs.polarity.Goals as goal

-- the polarity at a place of the table
abbrev entry_at : ℕ → ℤ
entry_at n = to_z w64 (of_z w64 (get_or POLARITIES n (pos 0)))

-- the bit that a polarity stands for
abbrev bit_of : ℤ → ℕ
bit_of (pos n) = 0
bit_of (negsuc n) = 1

abbrev polarity_for : ℕ → ℤ
polarity_for bit = if nat_eq bit 0 then pos 1 else negsuc 0

-- the bits of the table, from place -7 on
abbrev bits_from_minus_seven : ℕ → ℕ
bits_from_minus_seven k = if nat_lt k 7 then 1 else bit_of (entry_at (k - 7))

table_is_sequence : (j : ℕ) → j < 127 + 7 → from_minus_seven 127 j ≡ bits_from_minus_seven j
unfolding from_minus_seven
table_is_sequence =
    is_sequence bits_from_minus_seven 127
    (λ j lt. eqb-true _ _ (agree_below_at (λ j. nat_eq (from_minus_seven 127 j) (bits_from_minus_seven j)) (λ _. true) 7 j refl lt))
    (λ k lt. eqb-true _ _ (agree_below_at (λ k. nat_eq (bits_from_minus_seven (k + 7)) (exclusive_or (bits_from_minus_seven k) (bits_from_minus_seven (k + 3)))) (λ _. true) 127 k refl lt))

of_its_bit : (n : ℕ) → n < 127 → entry_at n ≡ polarity_for (bits_from_minus_seven (n + 7))
of_its_bit n lt = is_same _ _ (agree_below_at (λ k. same_number (entry_at k) (polarity_for (bits_from_minus_seven (k + 7)))) (λ _. true) 127 n refl lt)

pub returns : goal.returns
unfolding polarity_of
returns c =
    let place = c.args.n % 127 in
    of_its_bit place (omega arith) ∙ ap polarity_for (sym (table_is_sequence (place + 7) (omega arith)))
