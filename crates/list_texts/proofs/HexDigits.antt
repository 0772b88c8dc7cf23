-- Octets in hexadecimal digits: their places.
use Rattle.std.proofs.Common.{ℕ, ◌+◌, ◌-◌, ◌*◌, ◌/◌, ◌%◌, ◌<◌, ◌≤◌, ◌≡◌, ◌≢◌, ◌⊎◌, inl, inr, List, [], ◌∷◌, ◌++◌, All, length, take, get_or, slice_index, nat_eq, true, refl, sym, ap, ◌∙◌, subst, arith, append-nil, length-append}
use Rattle.std.proofs.lemmas.Bool.{agree_below_at, cases_eq, cases_lt, eqb-true}
use Rattle.std.proofs.lemmas.List.{length-take-le, take-take, take_all}
use Rattle.std.proofs.lemmas.List.Elements.{All-append, All-cons, All-get_or, All-head, All-nil, All-tail, All-take}
use Rattle.bit_lists.specs.Bits.{AreOctets, IsOctet}
use Rattle.hex.specs.Hex.{encode_lower, encode_with, lower_digits}
use Rattle.hex.proofs.HexLemmas.{length-encode_with}
use Rattle.hex_digits.specs.Digits.{IsDigit}
use Rattle.list_texts.specs.Words.{AreDigits, IsDigitsEnd, SaysOctets}
use Rattle.word_grammar.specs.Marks.{HasNo}
use Rattle.word_grammar.specs.Places.{Begins, IsBadAt}
use Rattle.word_grammar.proofs.Marks.{bare_by_byte, same_cons}
use Rattle.word_grammar.proofs.Places.{bad_byte, bad_end}

-- the digits of numbers below 16
low_digit : (n : ℕ) → n < 10 → slice_index lower_digits n ≡ 48 + n
low_digit n l = eqb-true _ _ (agree_below_at (λ n. nat_eq (slice_index lower_digits n) (48 + n)) (λ n. true) 10 n refl l)

high_digit : (n : ℕ) → n < 6 → slice_index lower_digits (10 + n) ≡ 97 + n
high_digit n l = eqb-true _ _ (agree_below_at (λ n. nat_eq (slice_index lower_digits (10 + n)) (97 + n)) (λ n. true) 6 n refl l)

digit_of_value : (n : ℕ) → n < 16 → IsDigit (slice_index lower_digits n)
digit_of_value n l =
    elim (cases_lt n 10) [
      | inl few ↦ let e = low_digit n few in inl (omega (arith, e), omega (arith, e))
      | inr many ↦
          let k : ℕ = n - 10 in
          let same : 10 + k ≡ n = omega arith in
          let e : slice_index lower_digits n ≡ 97 + k = ap (slice_index lower_digits) (sym same) ∙ high_digit k (omega arith) in
          inr (omega (arith, e), omega (arith, e))
    ]

value_of_digit : (byte : ℕ) → IsDigit byte → (n : ℕ) × (n < 16) × (slice_index lower_digits n ≡ byte)
value_of_digit byte (inl h) =
    let n : ℕ = byte - 48 in
    let few : n < 10 = omega (arith, h.1) in
    let back : 48 + n ≡ byte = omega (arith, h.0) in
    (n, omega arith, low_digit n few ∙ back)
value_of_digit byte (inr h) =
    let n : ℕ = byte - 97 in
    let few : n < 6 = omega (arith, h.1) in
    let back : 97 + n ≡ byte = omega (arith, h.0) in
    (10 + n, omega arith, high_digit n few ∙ back)

-- what octets are written in is digits, two an octet
pub octet_digits : (octets : List ℕ) → AreOctets octets → All IsDigit (encode_lower octets)
unfolding encode_with
octet_digits [] h = All-nil IsDigit
octet_digits (octet ∷ octets) h =
    let fits : octet < 256 = All-head IsOctet octet octets h in
    let high : ℕ = slice_index lower_digits (octet / 16) in
    let low : ℕ = slice_index lower_digits (octet % 16) in
    All-cons IsDigit high (low ∷ encode_lower octets) (digit_of_value (octet / 16) (omega arith))
    (All-cons IsDigit low (encode_lower octets) (digit_of_value (octet % 16) (omega arith)) (octet_digits octets (All-tail IsOctet octet octets h)))

pub digits_count : (octets word : List ℕ) → SaysOctets octets word → length word ≡ 2 * length octets
digits_count octets word says = ap length says.is ∙ length-encode_with lower_digits octets

-- digits, an even number of them, are those of octets
octets_of : (word : List ℕ) → All IsDigit word → length word % 2 ≡ 0 → (octets : List ℕ) × AreOctets octets × (word ≡ encode_lower octets)
unfolding encode_with
octets_of [] h e = ([], All-nil IsOctet, refl)
octets_of (x ∷ []) h e = absurd (omega (arith, e))
octets_of (x ∷ y ∷ word) h e =
    let behind : All IsDigit (y ∷ word) = All-tail IsDigit x (y ∷ word) h in
    let a = value_of_digit x (All-head IsDigit x (y ∷ word) h) in
    let b = value_of_digit y (All-head IsDigit y word behind) in
    let rest = octets_of word (All-tail IsDigit y word behind) (omega (arith, e)) in
    let octet : ℕ = 16 * a.0 + b.0 in
    let high : octet / 16 ≡ a.0 = omega (arith, a.1, b.1) in
    let low : octet % 16 ≡ b.0 = omega (arith, a.1, b.1) in
    let first : x ≡ slice_index lower_digits (octet / 16) = sym (ap (slice_index lower_digits) high ∙ a.2) in
    let second : y ≡ slice_index lower_digits (octet % 16) = sym (ap (slice_index lower_digits) low ∙ b.2) in
    (octet ∷ rest.0, All-cons IsOctet octet rest.0 (omega (arith, a.1, b.1)) rest.1, same_cons _ _ _ _ first (same_cons _ _ _ _ second rest.2))

good_digits : (word : List ℕ) → All IsDigit word → length word % 2 ≡ 0 → 1 ≤ length word → length word ≤ 8190 → AreDigits word
good_digits word h e some few =
    let o = octets_of word h e in
    let size : length word ≡ 2 * length o.0 = ap length o.2 ∙ length-encode_with lower_digits o.0 in
    (o.0, record { long = (omega (arith, size), omega (arith, size)); octets_are = o.1; is = o.2 })

-- at most 8190 digits begin those of some octets
pub digits_begin : (front : List ℕ) → All IsDigit front → length front ≤ 8190 → Begins AreDigits front
digits_begin front h few =
    let zero_digit : IsDigit 48 = inl (omega arith, omega arith) in
    let one : All IsDigit (48 ∷ []) = All-cons IsDigit 48 [] zero_digit (All-nil IsDigit) in
    let two : All IsDigit (48 ∷ 48 ∷ []) = All-cons IsDigit 48 (48 ∷ []) zero_digit one in
    let size_one = length-append front (48 ∷ []) in
    let size_two = length-append front (48 ∷ 48 ∷ []) in
    elim (cases_eq (length front % 2) 0) [
      | inr odd ↦ (48 ∷ [], good_digits (front ++ 48 ∷ []) (All-append IsDigit front (48 ∷ []) h one) (omega (arith, size_one, odd)) (omega (arith, size_one)) (omega (arith, size_one, odd)))
      | inl even ↦ elim (cases_lt 0 (length front)) [
        | inl some ↦ ([], subst AreDigits (sym (append-nil front)) (good_digits front h even some few))
        | inr none ↦ (48 ∷ 48 ∷ [], good_digits (front ++ 48 ∷ 48 ∷ []) (All-append IsDigit front (48 ∷ 48 ∷ []) h two) (omega (arith, size_two, none)) (omega (arith, size_two)) (omega (arith, size_two, none)))
      ]
    ]

pub some_digits : (rest : List ℕ) × AreDigits rest
some_digits = digits_begin [] (All-nil IsDigit) (omega arith)

-- behind them a byte that is no digit stops, and so does any behind 8190 digits
digit_between : (front rest : List ℕ) (byte : ℕ) → All IsDigit ((front ++ byte ∷ []) ++ rest) → IsDigit byte
digit_between [] rest byte h = All-head IsDigit byte rest h
digit_between (x ∷ front) rest byte h = digit_between front rest byte (All-tail IsDigit x ((front ++ byte ∷ []) ++ rest) h)

no_digit : (front : List ℕ) (byte : ℕ) → ¬ IsDigit byte → ¬ Begins AreDigits (front ++ byte ∷ [])
no_digit front byte none h =
    let says : SaysOctets h.1.0 ((front ++ byte ∷ []) ++ h.0) = h.1.1 in
    none (digit_between front h.0 byte (subst (All IsDigit) (sym says.is) (octet_digits h.1.0 says.octets_are)))

too_long : (front : List ℕ) (byte : ℕ) → 8190 ≤ length front → ¬ Begins AreDigits (front ++ byte ∷ [])
too_long front byte l h =
    let says : SaysOctets h.1.0 ((front ++ byte ∷ []) ++ h.0) = h.1.1 in
    omega (arith, digits_count h.1.0 ((front ++ byte ∷ []) ++ h.0) says, says.long.1, length-append (front ++ byte ∷ []) h.0, length-append front (byte ∷ []))

front_digits : (word : List ℕ) (first end : ℕ) → IsDigitsEnd word first → end ≤ first → All IsDigit (take end word)
front_digits word first end h l = subst (All IsDigit) (take-take end first word l) (All-take IsDigit end (take first word) h.digits)

-- a word is bad at its first byte that is no digit, or behind 8190 digits
pub bad_inside : (word : List ℕ) (first end : ℕ) → IsDigitsEnd word first → end ≤ first → end ≤ 8190 → (end ≡ first) ⊎ (end ≡ 8190) → end < length word → IsBadAt AreDigits word end
bad_inside word first end h l few which inside =
    let size = length-take-le end word (omega arith) in
    let stops : ¬ Begins AreDigits (take end word ++ get_or word end 0 ∷ []) = elim which [
      | inl e ↦ elim h.stops [
        | inl whole ↦ absurd (omega (arith, e, whole))
        | inr none ↦ no_digit (take end word) (get_or word end 0) (subst (λ k. ¬ IsDigit (get_or word k 0)) (sym e) none)
      ]
      | inr e ↦ too_long (take end word) (get_or word end 0) (omega (arith, size, e))
    ] in
    bad_byte AreDigits word end 0 inside (digits_begin (take end word) (front_digits word first end h l) (omega (arith, size))) stops

-- .. and at its length, where it has none or an odd number of digits
pub bad_whole : (word : List ℕ) (first end : ℕ) → IsDigitsEnd word first → end ≤ first → end ≤ 8190 → length word ≤ end → (end ≡ 0) ⊎ (end % 2 ≡ 1) → IsBadAt AreDigits word end
bad_whole word first end h l few all odd =
    let size : length word ≡ end = omega (arith, h.within) in
    let digits : All IsDigit word = subst (All IsDigit) (take_all end word all) (front_digits word first end h l) in
    let none : ¬ AreDigits word = λ a. let count = digits_count a.0 word a.1 in elim odd [
      | inl e ↦ omega (arith, e, size, count, a.1.long.0)
      | inr e ↦ omega (arith, e, size, count)
    ] in
    subst (IsBadAt AreDigits word) size (bad_end AreDigits word (digits_begin word digits (omega arith)) none)

-- and else it is good
pub good_whole : (word : List ℕ) (first end : ℕ) → IsDigitsEnd word first → end ≤ first → end ≤ 8190 → length word ≤ end → end ≢ 0 → end % 2 ≢ 1 → AreDigits word
good_whole word first end h l few all some even =
    let size : length word ≡ end = omega (arith, h.within) in
    let digits : All IsDigit word = subst (All IsDigit) (take_all end word all) (front_digits word first end h l) in
    good_digits word digits (omega (arith, size, even)) (omega (arith, size, some)) (omega arith)

-- digits hold no newline
pub digits_bare : (octets word : List ℕ) → SaysOctets octets word → HasNo 10 word
digits_bare octets word says =
    let digits : All IsDigit word = subst (All IsDigit) (sym says.is) (octet_digits octets says.octets_are) in
    bare_by_byte 10 word (λ k l e. elim (All-get_or IsDigit word k 0 l digits) [ inl h ↦ omega (arith, e, h.0) | inr h ↦ omega (arith, e, h.0) ])
