-- Decimal numbers in a range, and what begins them.
use Rattle.std.proofs.Common.{ℕ, zero, suc, ◌+◌, ◌*◌, ◌/◌, ◌%◌, ◌^◌, ◌<◌, ◌≤◌, ◌≡◌, ◌≢◌, ◌⊎◌, inl, inr, List, [], ◌∷◌, ◌++◌, length, take, get_or, Option, Some, None, IfSome, refl, sym, ap, ◌∙◌, subst, arith, append_assoc, append-nil, length-append}
use Rattle.std.specs.Fmt.{decimal}
use Rattle.std.proofs.lemmas.Fmt.{decimal_by_steps, decimal_digit, decimal_injective, decimal_nonempty, decimal_step}
use Rattle.std.proofs.lemmas.List.{get_or_default, nil_from_length, same_from_push}
use Rattle.std.proofs.lemmas.Bool.{cases_lt}
use Rattle.word_grammar.specs.Marks.{HasNo}
use Rattle.word_grammar.specs.Numbers.{Grows, IsNext, IsNumber, IsWide, SaysNumber, digits_read}
use Rattle.word_grammar.specs.Places.{Begins, IsBadAt}
use Rattle.word_grammar.proofs.Marks.{bare_append}
use Rattle.word_grammar.proofs.Places.{bad_byte, bad_end}

-- a list has no last byte, or a front and one
last_of : (xs : List ℕ) → (xs ≡ []) ⊎ ((front : List ℕ) × (byte : ℕ) × (xs ≡ front ++ byte ∷ []))
last_of [] = inl refl
last_of (x ∷ xs) =
    elim (last_of xs) [
      | inl e ↦ inr ([], x, ap (λ r. x ∷ r) e)
      | inr h ↦ inr (x ∷ h.0, h.1, ap (λ r. x ∷ r) h.2)
    ]

-- the text is the digits of a number that is the given one, or of which ten times it is at most that one
abbrev FrontOf : ℕ → List ℕ → Type 0
FrontOf n text = (v : ℕ) × (text ≡ decimal v) × ((v ≡ n) ⊎ ((1 ≤ v) × (10 * v ≤ n)))

abbrev HasFronts : ℕ → List ℕ → Type 0
HasFronts n ds = n < 2 ^ 64 → (ds ≡ decimal n) × ((text rest : List ℕ) → 0 < length text → ds ≡ text ++ rest → FrontOf n text)

one_digit : (n : ℕ) → n < 10 → HasFronts n ((48 + n) ∷ [])
one_digit n l b = (
  sym (decimal_digit n l),
  λ text rest some e.
      let none : rest ≡ [] = nil_from_length rest (omega (arith, ap length e, length-append text rest)) in
      (n, sym (append-nil text) ∙ ap (λ r. text ++ r) (sym none) ∙ sym e ∙ sym (decimal_digit n l), inl refl),
)

longer : (v n : ℕ) → 10 ≤ n → (v ≡ n / 10) ⊎ ((1 ≤ v) × (10 * v ≤ n / 10)) → (1 ≤ v) × (10 * v ≤ n)
longer v n l (inl e) = (omega arith, omega arith)
longer v n l (inr h) = (omega arith, omega arith)

more_digits : (n : ℕ) (ds : List ℕ) → 10 ≤ n → HasFronts (n / 10) ds → HasFronts n (ds ++ (48 + n % 10) ∷ [])
more_digits n ds l h b =
    let small : n / 10 < 2 ^ 64 = omega arith in
    let p = h small in
    let is : ds ++ (48 + n % 10) ∷ [] ≡ decimal n = ap (λ x. x ++ (48 + n % 10) ∷ []) p.0 ∙ sym (decimal_step n l b) in (
      is,
      λ text rest some e.
          elim (last_of rest) [
            | inl none ↦ (n, sym (append-nil text) ∙ ap (λ r. text ++ r) (sym none) ∙ sym e ∙ is, inl refl)
            | inr x ↦
                let front : ds ≡ text ++ x.0 = (same_from_push ds (text ++ x.0) (48 + n % 10) x.1 (e ∙ ap (λ r. text ++ r) x.2 ∙ sym (append_assoc text x.0 (x.1 ∷ [])))).0 in
                let of : FrontOf (n / 10) text = p.1 text x.0 some front in
                (of.0, of.1, inr (longer of.0 n l of.2))
          ],
    )

-- a front of a number's digits is such a number
front_of_number : (n : ℕ) (text rest : List ℕ) → n < 2 ^ 64 → 0 < length text → decimal n ≡ text ++ rest → FrontOf n text
front_of_number n text rest b some e = (decimal_by_steps HasFronts one_digit more_digits n b b).1 text rest some e

grows_from : (least most n v : ℕ) → least ≤ n → n ≤ most → (v ≡ n) ⊎ ((1 ≤ v) × (10 * v ≤ n)) → Grows least most v
grows_from least most n v low high (inl e) = (omega arith, inl (omega arith))
grows_from least most n v low high (inr h) = (omega arith, inr (h.0, omega arith))

-- what begins a number of a range is the digits of a number that grows into it
pub begins_grows : (least most : ℕ) (text : List ℕ) → most < 2 ^ 64 → 0 < length text → Begins (IsNumber least most) text → (v : ℕ) × (text ≡ decimal v) × Grows least most v
begins_grows least most text b some h =
    let n = h.1.0 in
    let says : SaysNumber least most n (text ++ h.0) = h.1.1 in
    let of : FrontOf n text = front_of_number n text h.0 (omega (arith, says.up_to)) some (sym says.is) in
    (of.0, of.1, grows_from least most n of.0 says.from says.up_to of.2)

grows_more : (least most v : ℕ) → IsWide least most → 10 * v ≤ most → 1 ≤ v → v < least → Grows least most (10 * v)
grows_more least most v w h one low = (
  h,
  elim (cases_lt (10 * v) least) [
    | inl l ↦ inr (omega arith, elim w [ inl wide ↦ omega arith | inr few ↦ omega arith ])
    | inr ge ↦ inl ge
  ],
)

more_to_go : (least most v : ℕ) → v < least → Grows least most v → (1 ≤ v) × (10 * v ≤ most)
more_to_go least most v l g = elim g.1 [ inl h ↦ absurd (omega arith) | inr h ↦ h ]

zero_behind : (v : ℕ) → 1 ≤ v → 10 * v < 2 ^ 64 → decimal (10 * v) ≡ decimal v ++ 48 ∷ []
zero_behind v one b =
    let front : 10 * v / 10 ≡ v = omega arith in
    let digit : 48 + 10 * v % 10 ≡ 48 = omega arith in
    decimal_step (10 * v) (omega arith) b ∙ ap (λ x. decimal x ++ (48 + 10 * v % 10) ∷ []) front ∙ ap (λ x. decimal v ++ x ∷ []) digit

completed : (fuel least most v : ℕ) → most < 2 ^ 64 → IsWide least most → least ≤ v + fuel → Grows least most v → Begins (IsNumber least most) (decimal v)
completed zero least most v b w l g = ([], (v, record { from = omega arith; up_to = g.0; is = append-nil (decimal v) }))
completed (suc fuel) least most v b w l g =
    elim (cases_lt v least) [
      | inl low ↦
          let m = more_to_go least most v low g in
          let h : Begins (IsNumber least most) (decimal (10 * v)) = completed fuel least most (10 * v) b w (omega arith) (grows_more least most v w m.1 m.0 low) in (
            48 ∷ h.0,
            (
              h.1.0,
              record {
                from = h.1.1.from;
                up_to = h.1.1.up_to;
                is = sym (append_assoc (decimal v) (48 ∷ []) h.0) ∙ ap (λ x. x ++ h.0) (sym (zero_behind v m.0 (omega arith))) ∙ h.1.1.is;
              },
            ),
          )
      | inr ge ↦ ([], (v, record { from = ge; up_to = g.0; is = append-nil (decimal v) }))
    ]

-- the digits of a number that grows into a wide range begin a number of it
pub grows_begins : (least most v : ℕ) → most < 2 ^ 64 → IsWide least most → Grows least most v → Begins (IsNumber least most) (decimal v)
grows_begins least most v b w g = completed least least most v b w (omega arith) g

above_zero : (w : ℕ) → Some w ≢ Some 0 → 1 ≤ w
above_zero zero h = absurd (h refl)
above_zero (suc w) h = omega arith

-- one digit more
pub next_digits : (read : Option ℕ) (byte v : ℕ) → v < 2 ^ 64 → IsNext read byte v → decimal v ≡ digits_read read ++ byte ∷ []
next_digits None byte v b n =
    let digit : 48 + v ≡ byte = omega (arith, n.low, n.value) in
    decimal_digit v (omega (arith, n.high, n.value)) ∙ ap (λ x. x ∷ []) digit
next_digits (Some w) byte v b n =
    let some : 1 ≤ w = above_zero w n.no_zero in
    let front : v / 10 ≡ w = omega (arith, n.low, n.high, n.value) in
    let digit : 48 + v % 10 ≡ byte = omega (arith, n.low, n.high, n.value) in
    decimal_step v (omega (arith, n.low, n.high, n.value)) b ∙ ap (λ x. decimal x ++ (48 + v % 10) ∷ []) front ∙ ap (λ x. decimal w ++ x ∷ []) digit

not_zero : (w : ℕ) → 1 ≤ w → Some w ≢ Some 0
not_zero zero l = absurd (omega arith)
not_zero (suc w) l = λ e. cc

-- digits that end in a byte are one digit, or more digits and one
is_next_of_one : (read : Option ℕ) (byte v : ℕ) → v < 10 → IfSome read (λ w. w < 2 ^ 64) → decimal v ≡ digits_read read ++ byte ∷ [] → IsNext read byte v
is_next_of_one None byte v l small e =
    let same : 48 + v ≡ byte = ap (λ x. get_or x 0 0) (sym (decimal_digit v l) ∙ e) in
    record { low = omega arith; high = omega arith; no_zero = λ x. cc; value = omega arith }
is_next_of_one (Some w) byte v l small e =
    absurd (omega (arith, ap length (sym (decimal_digit v l) ∙ e), length-append (decimal w) (byte ∷ []), decimal_nonempty w small))

is_next_of_more : (read : Option ℕ) (byte v : ℕ) → 10 ≤ v → v < 2 ^ 64 → IfSome read (λ w. w < 2 ^ 64) → decimal v ≡ digits_read read ++ byte ∷ [] → IsNext read byte v
is_next_of_more None byte v l b small e =
    let parts = same_from_push (decimal (v / 10)) [] (48 + v % 10) byte (sym (decimal_step v l b) ∙ e) in
    absurd (omega (arith, ap length parts.0, decimal_nonempty (v / 10) (omega arith)))
is_next_of_more (Some w) byte v l b small e =
    let parts = same_from_push (decimal (v / 10)) (decimal w) (48 + v % 10) byte (sym (decimal_step v l b) ∙ e) in
    let front : v / 10 ≡ w = decimal_injective (v / 10) w (omega arith) small parts.0 in
    let digit : 48 + v % 10 ≡ byte = parts.1 in
    record { low = omega arith; high = omega arith; no_zero = not_zero w (omega arith); value = omega arith }

-- and back
pub is_next : (read : Option ℕ) (byte v : ℕ) → v < 2 ^ 64 → IfSome read (λ w. w < 2 ^ 64) → decimal v ≡ digits_read read ++ byte ∷ [] → IsNext read byte v
is_next read byte v b small e =
    elim (cases_lt v 10) [
      | inl l ↦ is_next_of_one read byte v l small e
      | inr l ↦ is_next_of_more read byte v l b small e
    ]

small_read : (read : Option ℕ) (least most : ℕ) → most < 2 ^ 64 → IfSome read (Grows least most) → IfSome read (λ w. w < 2 ^ 64)
small_read None least most b g = tt
small_read (Some w) least most b g = omega (arith, g.0)

-- no digit more: the bytes read and this one begin no number of the range
pub no_next : (least most : ℕ) (read : Option ℕ) (byte : ℕ) → most < 2 ^ 64 → IfSome read (Grows least most) → ((v : ℕ) → IsNext read byte v → ¬ Grows least most v) → ¬ Begins (IsNumber least most) (digits_read read ++ byte ∷ [])
no_next least most read byte b grows none h =
    let g = begins_grows least most (digits_read read ++ byte ∷ []) b (omega (arith, length-append (digits_read read) (byte ∷ []))) h in
    let grown : Grows least most g.0 = g.2 in
    none g.0 (is_next read byte g.0 (omega (arith, grown.0)) (small_read read least most b grows) (sym g.1)) grown

-- what was read begins a number of the range
pub read_begins : (least most : ℕ) (read : Option ℕ) → most < 2 ^ 64 → least ≤ most → IsWide least most → IfSome read (Grows least most) → Begins (IsNumber least most) (digits_read read)
read_begins least most None b l w g = (decimal least, (least, record { from = omega arith; up_to = l; is = refl }))
read_begins least most (Some v) b l w g = grows_begins least most v b w g

-- a number of the range is no shorter one
pub is_in_range : (least most v : ℕ) → most < 2 ^ 64 → v < 2 ^ 64 → IsNumber least most (decimal v) → least ≤ v
is_in_range least most v b small h =
    let says : SaysNumber least most h.0 (decimal v) = h.1 in
    let same : v ≡ h.0 = decimal_injective v h.0 small (omega (arith, says.up_to)) says.is in
    omega (arith, says.from)

-- what was read is no number of the range where there is none, or where it is too small
pub read_none : (least most : ℕ) (read : Option ℕ) → most < 2 ^ 64 → IfSome read (Grows least most) → IfSome read (λ v. v < least) → ¬ IsNumber least most (digits_read read)
read_none least most None b g low h =
    let says : SaysNumber least most h.0 [] = h.1 in
    omega (arith, ap length says.is, decimal_nonempty h.0 (omega (arith, says.up_to)))
read_none least most (Some v) b g low h =
    let grown : Grows least most v = g in
    omega (arith, is_in_range least most v b (omega (arith, grown.0)) h)

-- a byte that is no digit more is a bad place
pub number_byte : (least most : ℕ) (read : Option ℕ) (word : List ℕ) (at d : ℕ) → most < 2 ^ 64 → least ≤ most → IsWide least most → at < length word → take at word ≡ digits_read read → IfSome read (Grows least most) → ((v : ℕ) → IsNext read (get_or word at d) v → ¬ Grows least most v) → IsBadAt (IsNumber least most) word at
number_byte least most read word at d b l w in' e g none =
    let Kind : List ℕ → Type 0 = IsNumber least most in
    let byte : ℕ = get_or word at d in
    let same : byte ≡ get_or word at byte = get_or_default word at d byte in' in
    let stops : ¬ Begins Kind (digits_read read ++ byte ∷ []) = no_next least most read byte b g none in
    bad_byte Kind word at byte in' (subst (Begins Kind) (sym e) (read_begins least most read b l w g))
    (subst (λ x. ¬ Begins Kind x) (ap (λ x. x ++ byte ∷ []) (sym e) ∙ ap (λ x. take at word ++ x ∷ []) same) stops)

-- a word that is too short is bad at its length
pub number_end : (least most : ℕ) (read : Option ℕ) (word : List ℕ) → most < 2 ^ 64 → least ≤ most → IsWide least most → word ≡ digits_read read → IfSome read (Grows least most) → IfSome read (λ v. v < least) → IsBadAt (IsNumber least most) word (length word)
number_end least most read word b l w e g low =
    let Kind : List ℕ → Type 0 = IsNumber least most in
    bad_end Kind word (subst (Begins Kind) (sym e) (read_begins least most read b l w g)) (subst (λ x. ¬ Kind x) (sym e) (read_none least most read b g low))

-- a mark that is no digit stands in no number
pub digits_bare : (mark n : ℕ) → (mark < 48) ⊎ (57 < mark) → n < 2 ^ 64 → HasNo mark (decimal n)
digits_bare mark n other b =
    let differ : (d : ℕ) → d < 10 → 48 + d ≢ mark = λ d l e. elim other [ inl low ↦ omega (arith, e) | inr high ↦ omega (arith, e) ] in
    decimal_by_steps (λ m ds. HasNo mark ds) (λ d l. (differ d l, tt))
    (λ m ds l h. bare_append mark ds ((48 + m % 10) ∷ []) h (differ (m % 10) (omega arith), tt)) n b

pub no_space : (n : ℕ) → n < 2 ^ 64 → HasNo 32 (decimal n)
no_space n b = digits_bare 32 n (inl (omega arith)) b

pub number_bare : (mark least most n : ℕ) (word : List ℕ) → (mark < 48) ⊎ (57 < mark) → most < 2 ^ 64 → SaysNumber least most n word → HasNo mark word
number_bare mark least most n word other b says = subst (HasNo mark) (sym says.is) (digits_bare mark n other (omega (arith, says.up_to)))

-- a word is one number
pub same_number : (least most m n : ℕ) (word : List ℕ) → most < 2 ^ 64 → SaysNumber least most m word → SaysNumber least most n word → m ≡ n
same_number least most m n word b p q = decimal_injective m n (omega (arith, p.up_to)) (omega (arith, q.up_to)) (sym p.is ∙ q.is)
