-- The words of rates: their places.
use Rattle.std.proofs.Common.{ℕ, ◌+◌, ◌*◌, ◌/◌, ◌%◌, ◌^◌, ◌<◌, ◌≤◌, ◌≡◌, List, [], ◌∷◌, ◌++◌, inl, inr, lit<, sym, ap, ◌∙◌, subst, arith}
use Rattle.std.specs.Fmt.{decimal}
use Rattle.std.proofs.lemmas.Fmt.{decimal_digit, decimal_injective, decimal_step}
use Rattle.list_texts.specs.Words.{IsRate, SaysRate, rate_name, rate_names}
use Rattle.rate_table.proofs.ByRate.{by_rate, one_by_mbps}
use Rattle.rate_table.specs.declared.Rate.{Rate}
use Rattle.rate_table.specs.declared.Rate.TheVariants.{R6, R9, R12, R18, R24, R36, R48, R54}
use Rattle.rate_table.specs.Table.{row_of}
use Rattle.word_grammar.specs.Marks.{HasNo}
use Rattle.word_grammar.specs.Names.{IsOneOf, most_shared}
use Rattle.word_grammar.specs.Places.{IsBadAt}
use Rattle.word_grammar.proofs.Digits.{digits_bare}
use Rattle.word_grammar.proofs.Names.{bad_name}
use Rattle.word_grammar.proofs.Places.{bad_same}

mbps_small : (rate : Rate) → (row_of rate).mbps < 2 ^ 64
mbps_small = by_rate (λ rate. (row_of rate).mbps < 2 ^ 64) (lit< tt) (lit< tt) (lit< tt) (lit< tt) (lit< tt) (lit< tt) (lit< tt) (lit< tt)

-- a word is one rate's
pub one_rate : (a b : Rate) → decimal (row_of a).mbps ≡ decimal (row_of b).mbps → a ≡ b
one_rate a b e = one_by_mbps a b (decimal_injective (row_of a).mbps (row_of b).mbps (mbps_small a) (mbps_small b) e)

pub rate_bare : (mark : ℕ) (rate : Rate) → mark < 48 → HasNo mark (decimal (row_of rate).mbps)
rate_bare mark rate l = digits_bare mark (row_of rate).mbps (inl l) (mbps_small rate)

two_digits : (n tens ones : ℕ) → n ≡ 10 * tens + ones → 1 ≤ tens → tens < 10 → ones < 10 → decimal n ≡ (48 + tens) ∷ (48 + ones) ∷ []
two_digits n tens ones e some few less =
    let front : n / 10 ≡ tens = omega arith in
    let last : 48 + n % 10 ≡ 48 + ones = omega arith in
    decimal_step n (omega arith) (omega arith) ∙ ap (λ x. decimal x ++ (48 + n % 10) ∷ []) front ∙ ap (λ x. decimal tens ++ x ∷ []) last ∙ ap (λ x. x ++ (48 + ones) ∷ []) (decimal_digit tens few)

-- the names are the rates' words
pub name_is : (rate : Rate) → decimal (row_of rate).mbps ≡ rate_name rate
name_is R6 = decimal_digit 6 (omega arith)
name_is R9 = decimal_digit 9 (omega arith)
name_is R12 = two_digits 12 1 2 (omega arith) (omega arith) (omega arith) (omega arith)
name_is R18 = two_digits 18 1 8 (omega arith) (omega arith) (omega arith) (omega arith)
name_is R24 = two_digits 24 2 4 (omega arith) (omega arith) (omega arith) (omega arith)
name_is R36 = two_digits 36 3 6 (omega arith) (omega arith) (omega arith) (omega arith)
name_is R48 = two_digits 48 4 8 (omega arith) (omega arith) (omega arith) (omega arith)
name_is R54 = two_digits 54 5 4 (omega arith) (omega arith) (omega arith) (omega arith)

pub says_name : (rate : Rate) (word : List ℕ) → word ≡ rate_name rate → SaysRate rate word
says_name rate word e = e ∙ sym (name_is rate)

pub one_of_rates : (word : List ℕ) → IsOneOf rate_names word → IsRate word
one_of_rates word h =
    elim h [
      | inl e ↦ (R6, says_name R6 word e)
      | inr h ↦ elim h [
        | inl e ↦ (R9, says_name R9 word e)
        | inr h ↦ elim h [
          | inl e ↦ (R12, says_name R12 word e)
          | inr h ↦ elim h [
            | inl e ↦ (R18, says_name R18 word e)
            | inr h ↦ elim h [
              | inl e ↦ (R24, says_name R24 word e)
              | inr h ↦ elim h [
                | inl e ↦ (R36, says_name R36 word e)
                | inr h ↦ elim h [
                  | inl e ↦ (R48, says_name R48 word e)
                  | inr h ↦ elim h [ inl e ↦ (R54, says_name R54 word e) | inr h ↦ absurd h ]
                ]
              ]
            ]
          ]
        ]
      ]
    ]

rate_is_one : (rate : Rate) (word : List ℕ) → SaysRate rate word → IsOneOf rate_names word
rate_is_one R6 word e = inl (e ∙ name_is R6)
rate_is_one R9 word e = inr (inl (e ∙ name_is R9))
rate_is_one R12 word e = inr (inr (inl (e ∙ name_is R12)))
rate_is_one R18 word e = inr (inr (inr (inl (e ∙ name_is R18))))
rate_is_one R24 word e = inr (inr (inr (inr (inl (e ∙ name_is R24)))))
rate_is_one R36 word e = inr (inr (inr (inr (inr (inl (e ∙ name_is R36))))))
rate_is_one R48 word e = inr (inr (inr (inr (inr (inr (inl (e ∙ name_is R48)))))))
rate_is_one R54 word e = inr (inr (inr (inr (inr (inr (inr (inl (e ∙ name_is R54))))))))

-- a word that is no rate's is bad at the most bytes that it shares with one
pub bad_rate : (word : List ℕ) (at : ℕ) → IsBadAt (IsOneOf rate_names) word at → IsBadAt IsRate word at
bad_rate word at bad = bad_same (IsOneOf rate_names) IsRate word at one_of_rates (λ w h. rate_is_one h.0 w h.1) bad

pub no_rate : (word : List ℕ) (at : ℕ) → at ≡ most_shared rate_names word → ¬ IsOneOf rate_names word → IsBadAt IsRate word at
no_rate word at e none = bad_rate word at (subst (IsBadAt (IsOneOf rate_names) word) (sym e) (bad_name rate_names word (omega arith) none))
