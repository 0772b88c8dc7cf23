-- Signed numbers, and their places.
use Rattle.std.proofs.Common.{ℕ, zero, suc, ◌+◌, ◌<◌, ◌^◌, ◌≡◌, ◌≢◌, ◌⊎◌, inl, inr, List, [], ◌∷◌, ◌++◌, length, drop, get_or, ℤ, pos, negsuc, neg_ℤ, ◌≤ℤ◌, sym, ap, ◌∙◌, subst, arith, append_assoc, length-append}
use Rattle.std.proofs.lemmas.Int.{ints}
use Rattle.std.specs.Fmt.{decimal, signed_decimal}
use Rattle.std.specs.Int.Signed.{mag}
use Rattle.std.proofs.lemmas.Fmt.{first_decimal, decimal_digit, signed_decimal_injective}
use Rattle.word_grammar.specs.Marks.{HasNo}
use Rattle.word_grammar.specs.Numbers.{IsNumber, SaysNumber}
use Rattle.word_grammar.specs.Places.{IsBadAt, Stops}
use Rattle.word_grammar.specs.Signs.{IsSigned, SaysSigned}
use Rattle.word_grammar.proofs.Digits.{digits_bare}
use Rattle.word_grammar.proofs.Places.{bad_behind, bad_same}

-- no number begins with a minus sign
no_minus : (n : ℕ) (rest : List ℕ) → n < 2 ^ 64 → 45 ∷ rest ≡ decimal n → ⊥
no_minus zero rest b e = absurd (omega (arith, ap (λ x. get_or x 0 0) (e ∙ decimal_digit 0 (omega arith))))
no_minus (suc n) rest b e = absurd (omega (arith, ap (λ x. get_or x 0 0) e, first_decimal (suc n) (omega arith) b))

-- a number is a signed one
pub plain_says : (below above n : ℕ) (word : List ℕ) → SaysNumber 0 above n word → SaysSigned below above (pos n) word
plain_says below above n word h = record { from = omega (arith, ints); up_to = omega (arith, ints, h.up_to); is = h.is }

-- a number behind a minus sign is one
pub minus_says : (below above n : ℕ) (word : List ℕ) → SaysNumber 1 below n word → SaysSigned below above (neg_ℤ (pos n)) (45 ∷ word)
minus_says below above zero word h = absurd (omega (arith, h.from))
minus_says below above (suc n) word h = record { from = omega (arith, ints, h.up_to); up_to = omega (arith, ints); is = ap (λ x. 45 ∷ x) h.is }

says_behind_minus : (below above : ℕ) (number : ℤ) (rest : List ℕ) → above < 2 ^ 64 → SaysSigned below above number (45 ∷ rest) → IsNumber 1 below rest
says_behind_minus below above (pos n) rest b h = absurd (no_minus n rest (omega (arith, ints, h.up_to)) h.is)
says_behind_minus below above (negsuc n) rest b h =
    (suc n, record { from = omega arith; up_to = omega (arith, ints, h.from); is = ap (drop 1) h.is })

behind_minus : (below above : ℕ) (rest : List ℕ) → above < 2 ^ 64 → IsSigned below above (45 ∷ rest) → IsNumber 1 below rest
behind_minus below above rest b h = says_behind_minus below above h.0 rest b h.1

-- behind a minus sign, the place is that of the number there
pub bad_minus : (below above : ℕ) (rest : List ℕ) (at : ℕ) → above < 2 ^ 64 → IsBadAt (IsNumber 1 below) rest at → IsBadAt (IsSigned below above) (45 ∷ rest) (1 + at)
bad_minus below above rest at b h =
    bad_behind (IsSigned below above) (45 ∷ []) rest at (bad_same (IsNumber 1 below) (λ s. IsSigned below above (45 ∷ s)) rest at
    (λ s n. (neg_ℤ (pos n.0), minus_says below above n.0 s n.1)) (λ s n. behind_minus below above s b n) h)

-- a word whose first byte is no minus sign, or no negative number is in the range
abbrev pub HasNoMinus : ℕ → List ℕ → Type 0
HasNoMinus below word = (below ≡ 0) ⊎ (get_or word 0 0 ≢ 45)

says_plain : (below above : ℕ) (number : ℤ) (word : List ℕ) → HasNoMinus below word → SaysSigned below above number word → IsNumber 0 above word
says_plain below above (pos n) word m h = (n, record { from = omega arith; up_to = omega (arith, ints, h.up_to); is = h.is })
says_plain below above (negsuc n) word (inl none) h = absurd (omega (arith, ints, h.from))
says_plain below above (negsuc n) word (inr other) h = absurd (other (ap (λ x. get_or x 0 0) h.is))

-- a front that isn't empty has the word's first byte
same_minus : (below : ℕ) (front rest : List ℕ) → 0 < length front → HasNoMinus below front → HasNoMinus below (front ++ rest)
same_minus below [] rest l m = absurd (omega arith)
same_minus below (x ∷ front) rest l m = m

front_minus : (below : ℕ) (front rest : List ℕ) → HasNoMinus below (front ++ rest) → HasNoMinus below front
front_minus below [] rest m = inr (λ e. absurd (omega (arith, e)))
front_minus below (x ∷ front) rest m = m

plain_stops : (below above : ℕ) (before behind : List ℕ) → HasNoMinus below (before ++ behind) → Stops (IsNumber 0 above) before behind → Stops (IsSigned below above) before behind
plain_stops below above before [] m s = λ h. s (says_plain below above h.0 before (front_minus below before [] m) h.1)
plain_stops below above before (byte ∷ behind) m s =
    let front : List ℕ = before ++ byte ∷ [] in
    let m' : HasNoMinus below front = front_minus below front behind (subst (HasNoMinus below) (sym (append_assoc before (byte ∷ []) behind)) m) in
    λ h. s (h.0, says_plain below above h.1.0 (front ++ h.0) (same_minus below front h.0 (omega (arith, length-append before (byte ∷ []))) m') h.1.1)

-- where no minus sign is read, the place is that of a number
pub bad_plain : (below above : ℕ) (word : List ℕ) (at : ℕ) → HasNoMinus below word → IsBadAt (IsNumber 0 above) word at → IsBadAt (IsSigned below above) word at
bad_plain below above word at m h = record {
  before = h.before;
  behind = h.behind;
  whole = h.whole;
  place = h.place;
  begins = (h.begins.0, (pos h.begins.1.0, plain_says below above h.begins.1.0 _ h.begins.1.1));
  stops = plain_stops below above h.before h.behind (subst (HasNoMinus below) h.whole m) h.stops;
}

-- a mark that is no digit and no minus sign stands in no number
signed_digits_bare : (mark below above : ℕ) (number : ℤ) → (mark < 48) ⊎ (57 < mark) → 45 ≢ mark → below < 2 ^ 64 → above < 2 ^ 64 → neg_ℤ (pos below) ≤ℤ number → number ≤ℤ pos above → HasNo mark (signed_decimal number)
signed_digits_bare mark below above (pos n) other minus a b low high = digits_bare mark n other (omega (arith, ints))
signed_digits_bare mark below above (negsuc n) other minus a b low high = (minus, digits_bare mark (suc n) other (omega (arith, ints)))

pub signed_bare : (mark below above : ℕ) (number : ℤ) (word : List ℕ) → (mark < 48) ⊎ (57 < mark) → 45 ≢ mark → below < 2 ^ 64 → above < 2 ^ 64 → SaysSigned below above number word → HasNo mark word
signed_bare mark below above number word other minus a b says =
    subst (HasNo mark) (sym says.is) (signed_digits_bare mark below above number other minus a b says.from says.up_to)

mag_within : (below above : ℕ) (number : ℤ) → below < 2 ^ 63 → above < 2 ^ 63 → neg_ℤ (pos below) ≤ℤ number → number ≤ℤ pos above → mag number < 2 ^ 63
mag_within below above (pos n) a b low high = omega (arith, ints)
mag_within below above (negsuc n) a b low high = omega (arith, ints)

-- a word is one number
pub same_signed : (below above : ℕ) (y z : ℤ) (word : List ℕ) → below < 2 ^ 63 → above < 2 ^ 63 → SaysSigned below above y word → SaysSigned below above z word → y ≡ z
same_signed below above y z word a b p q =
    signed_decimal_injective y z (mag_within below above y a b p.from p.up_to) (mag_within below above z a b q.from q.up_to) (sym p.is ∙ q.is)
