-- Each text is a list or has a bad place.
use Rattle.std.proofs.Common.{ℕ, suc, ◌%◌, ◌≤◌, ◌≡◌, ◌⊎◌, List, [], ◌∷◌, length, take, inl, inr, refl, arith}
use Rattle.std.proofs.lemmas.Bool.{cases_eq, cases_lt}
use Rattle.std.proofs.lemmas.List.Elements.{All-cons, All-nil}
use Rattle.hex_digits.proofs.Decided.{digit_or_not}
use Rattle.hex_digits.specs.Digits.{IsDigit}
use Rattle.list_texts.specs.Lists.{IsList, SaysLine}
use Rattle.list_texts.specs.Words.{AreDigits, IsDigitsEnd, IsGapped, IsRate, IsSeeded, SaysRate, rate_names}
use Rattle.list_texts.proofs.HexDigits.{bad_inside, bad_whole, good_whole}
use Rattle.list_texts.proofs.Lines.{bad_line, gap_words, line_of_pair, rate_words, seed_words}
use Rattle.list_texts.proofs.Lists.{lines}
use Rattle.list_texts.proofs.Rates.{bad_rate, one_of_rates}
use Rattle.word_grammar.specs.Numbers.{SaysNumber}
use Rattle.word_grammar.specs.Pairs.{SaysSome}
use Rattle.word_grammar.specs.Places.{IsBadAt, IsDecided}
use Rattle.word_grammar.proofs.Decided.{decided_lines, decided_name, decided_number, decided_pair}

-- each word begins with some digits
end_of_digits : (word : List ℕ) → (end : ℕ) × IsDigitsEnd word end
end_of_digits [] = (0, record { within = omega arith; digits = All-nil IsDigit; stops = inl refl })
end_of_digits (byte ∷ word) =
    elim (digit_or_not byte) [
      | inr none ↦ (0, record { within = omega arith; digits = All-nil IsDigit; stops = inr none })
      | inl digit ↦
          let rest = end_of_digits word in
          let h : IsDigitsEnd word rest.0 = rest.1 in (
            suc rest.0,
            record {
              within = omega (arith, h.within);
              digits = All-cons IsDigit byte (take rest.0 word) digit h.digits;
              stops = elim h.stops [ inl e ↦ inl (omega (arith, e)) | inr none ↦ inr none ];
            },
          )
    ]

decided_from : (word : List ℕ) (first end : ℕ) → IsDigitsEnd word first → end ≤ first → end ≤ 8190 → (end ≡ first) ⊎ (end ≡ 8190) → AreDigits word ⊎ ((at : ℕ) × IsBadAt AreDigits word at)
decided_from word first end h l few which =
    elim (cases_lt end (length word)) [
      | inl inside ↦ inr (end, bad_inside word first end h l few which inside)
      | inr all ↦ elim (cases_eq end 0) [
        | inl none ↦ inr (end, bad_whole word first end h l few all (inl none))
        | inr some ↦ elim (cases_eq (end % 2) 1) [
          | inl odd ↦ inr (end, bad_whole word first end h l few all (inr odd))
          | inr even ↦ inl (good_whole word first end h l few all some even)
        ]
      ]
    ]

digits_decided : IsDecided AreDigits
digits_decided word =
    let first : ℕ = (end_of_digits word).0 in
    let h : IsDigitsEnd word first = (end_of_digits word).1 in
    elim (cases_lt 8190 first) [
      | inl over ↦ decided_from word first 8190 h (omega arith) (omega arith) (inr refl)
      | inr within ↦ decided_from word first first h (omega arith) within (inl refl)
    ]

gapped_decided : IsDecided IsGapped
gapped_decided =
    decided_pair 32 (SaysNumber 16 1048576) (λ _. AreDigits) gap_words (decided_number 16 1048576 (omega arith) (omega arith) (inl (omega arith))) (λ v word h. digits_decided)

seeded_decided : IsDecided IsSeeded
seeded_decided =
    decided_pair 32 (SaysNumber 1 127) (λ _. IsGapped) seed_words (decided_number 1 127 (omega arith) (omega arith) (inl (omega arith))) (λ v word h. gapped_decided)

rate_decided : IsDecided IsRate
rate_decided word =
    elim (decided_name rate_names (omega arith) word) [
      | inl h ↦ inl (one_of_rates word h)
      | inr bad ↦ inr (bad.0, bad_rate word bad.0 bad.1)
    ]

line_decided : IsDecided (SaysSome SaysLine)
line_decided text =
    elim (decided_pair 32 SaysRate (λ _. IsSeeded) rate_words rate_decided (λ rate word h. seeded_decided) text) [
      | inl pair ↦ inl (line_of_pair text pair)
      | inr bad ↦ inr (bad.0, bad_line text bad.0 bad.1)
    ]

pub list_decided : IsDecided IsList
list_decided = decided_lines 10 SaysLine IsList lines line_decided
