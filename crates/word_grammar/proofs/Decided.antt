-- Each text is of its kind or has a bad place.
use Rattle.std.proofs.Common.{ℕ, zero, suc, ◌+◌, ◌-◌, ◌*◌, ◌^◌, ◌<◌, ◌≤◌, ◌≡◌, ◌≢◌, ◌⊎◌, List, [], ◌∷◌, ◌++◌, length, take, drop, get_or, Option, Some, None, IfSome, unwrap_or, pos, neg_ℤ, inl, inr, refl, sym, ap, ◌∙◌, subst, arith, append_assoc, append-nil}
use Rattle.std.specs.Fmt.{decimal}
use Rattle.std.proofs.lemmas.Bool.{cases_eq, cases_lt}
use Rattle.std.proofs.lemmas.List.{drop-drop, drop_all, length-drop}
use Rattle.word_grammar.specs.Marks.{IsWordEnd}
use Rattle.word_grammar.specs.Names.{IsOneOf, most_shared}
use Rattle.word_grammar.specs.Numbers.{Grows, IsNext, IsNumber, IsWide, digits_read}
use Rattle.word_grammar.specs.Pairs.{SaysPair, SaysSome}
use Rattle.word_grammar.specs.Places.{IsBadAt, IsDecided}
use Rattle.word_grammar.specs.Signs.{IsSigned}
use Rattle.word_grammar.proofs.Digits.{next_digits, no_next, read_begins, read_none}
use Rattle.word_grammar.proofs.Lines.{AreLines, line_bad, line_good, line_last, line_rest, line_short}
use Rattle.word_grammar.proofs.Marks.{end_of, same_cons}
use Rattle.word_grammar.proofs.Names.{bad_name}
use Rattle.word_grammar.proofs.Pairs.{AreWords, pair_good, pair_rest, pair_short, pair_word}
use Rattle.word_grammar.proofs.Places.{bad_end}
use Rattle.word_grammar.proofs.Series.{IsSeries, series_full, series_good, series_item, series_last, series_rest, series_space}
use Rattle.word_grammar.proofs.Signs.{HasNoMinus, bad_minus, bad_plain, minus_says, plain_says}

-- a text is of a kind, or has a bad place
abbrev pub DecidedAt : (List ℕ → Type 0) → List ℕ → Type 0
DecidedAt Kind text = Kind text ⊎ ((at : ℕ) × IsBadAt Kind text at)

grows_or_not : (least most v : ℕ) → Grows least most v ⊎ (Grows least most v → ⊥)
grows_or_not least most v =
    elim (cases_lt most v) [
      | inl over ↦ inr (λ g. omega (arith, g.0))
      | inr within ↦ elim (cases_lt v least) [
        | inr from ↦ inl (within, inl from)
        | inl low ↦ elim (cases_lt most (10 * v)) [
          | inl full ↦ inr (λ g. elim g.1 [ inl h ↦ omega arith | inr h ↦ omega (arith, h.1) ])
          | inr room ↦ elim (cases_eq v 0) [
            | inl none ↦ inr (λ g. elim g.1 [ inl h ↦ omega arith | inr h ↦ omega (arith, h.0) ])
            | inr some ↦ inl (within, inr (omega arith, room))
          ]
        ]
      ]
    ]

zero_or_not : (read : Option ℕ) → (read ≡ Some 0) ⊎ (read ≢ Some 0)
zero_or_not None = inr (λ e. cc)
zero_or_not (Some zero) = inl refl
zero_or_not (Some (suc w)) = inr (λ e. cc)

next_or_not : (least most : ℕ) (read : Option ℕ) (byte : ℕ) → ((v : ℕ) × IsNext read byte v × Grows least most v) ⊎ ((v : ℕ) → IsNext read byte v → ¬ Grows least most v)
next_or_not least most read byte =
    let v : ℕ = 10 * unwrap_or read 0 + (byte - 48) in
    elim (zero_or_not read) [
      | inl e ↦ inr (λ w n g. n.no_zero e)
      | inr some ↦ elim (cases_lt byte 48) [
        | inl low ↦ inr (λ w n g. omega (arith, n.low))
        | inr from ↦ elim (cases_lt byte 58) [
          | inr high ↦ inr (λ w n g. omega (arith, n.high))
          | inl below ↦ elim (grows_or_not least most v) [
            | inl g ↦ inl (v, record { low = from; high = below; no_zero = some; value = refl }, g)
            | inr short ↦ inr (λ w n g. short (subst (Grows least most) n.value g))
          ]
        ]
      ]
    ]

end_of_digits : (least most : ℕ) → most < 2 ^ 64 → least ≤ most → IsWide least most → (read : Option ℕ) → IfSome read (Grows least most) → DecidedAt (IsNumber least most) (digits_read read)
end_of_digits least most b l w None g = inr (0, bad_end (IsNumber least most) [] (read_begins least most None b l w tt) (read_none least most None b tt tt))
end_of_digits least most b l w (Some v) g =
    elim (cases_lt v least) [
      | inl low ↦ inr (length (decimal v), bad_end (IsNumber least most) (decimal v) (read_begins least most (Some v) b l w g) (read_none least most (Some v) b g low))
      | inr from ↦ inl (v, record { from = from; up_to = g.0; is = refl })
    ]

decided_digits : (least most : ℕ) → most < 2 ^ 64 → least ≤ most → IsWide least most → (read : Option ℕ) (rest : List ℕ) → IfSome read (Grows least most) → DecidedAt (IsNumber least most) (digits_read read ++ rest)
decided_digits least most b l w read [] g = subst (DecidedAt (IsNumber least most)) (sym (append-nil (digits_read read))) (end_of_digits least most b l w read g)
decided_digits least most b l w read (byte ∷ rest) g =
    elim (next_or_not least most read byte) [
      | inl next ↦
          let same : decimal next.0 ≡ digits_read read ++ byte ∷ [] = next_digits read byte next.0 (omega (arith, next.2.0)) next.1 in
          subst (DecidedAt (IsNumber least most)) (ap (λ x. x ++ rest) same ∙ append_assoc (digits_read read) (byte ∷ []) rest)
          (decided_digits least most b l w (Some next.0) rest next.2)
      | inr none ↦ inr (
        length (digits_read read),
        record {
          before = digits_read read;
          behind = byte ∷ rest;
          whole = refl;
          place = refl;
          begins = read_begins least most read b l w g;
          stops = no_next least most read byte b g none;
        },
      )
    ]

-- a number of a wide range
pub decided_number : (least most : ℕ) → most < 2 ^ 64 → least ≤ most → IsWide least most → IsDecided (IsNumber least most)
decided_number least most b l w text = decided_digits least most b l w None text tt

decided_plain : (below above : ℕ) (word : List ℕ) → above < 2 ^ 64 → HasNoMinus below word → DecidedAt (IsSigned below above) word
decided_plain below above word b m =
    elim (decided_number 0 above b (omega arith) (inl (omega arith)) word) [
      | inl n ↦ inl (pos n.0, plain_says below above n.0 word n.1)
      | inr bad ↦ inr (bad.0, bad_plain below above word bad.0 m bad.1)
    ]

decided_minus : (below above : ℕ) (rest : List ℕ) → below < 2 ^ 64 → above < 2 ^ 64 → 1 ≤ below → DecidedAt (IsSigned below above) (45 ∷ rest)
decided_minus below above rest a b some =
    let wide : IsWide 1 below = elim (cases_lt below 10) [ inl few ↦ inr few | inr many ↦ inl (omega arith) ] in
    elim (decided_number 1 below a some wide rest) [
      | inl n ↦ inl (neg_ℤ (pos n.0), minus_says below above n.0 rest n.1)
      | inr bad ↦ inr (1 + bad.0, bad_minus below above rest bad.0 b bad.1)
    ]

-- a number with a sign
pub decided_signed : (below above : ℕ) → below < 2 ^ 64 → above < 2 ^ 64 → IsDecided (IsSigned below above)
decided_signed below above a b [] = decided_plain below above [] b (inr (λ e. absurd (omega (arith, e))))
decided_signed below above a b (x ∷ rest) =
    elim (cases_eq x 45) [
      | inl minus ↦ elim (cases_eq below 0) [
        | inl none ↦ decided_plain below above (x ∷ rest) b (inl none)
        | inr some ↦ subst (λ y. DecidedAt (IsSigned below above) (y ∷ rest)) (sym minus) (decided_minus below above rest a b (omega arith))
      ]
      | inr other ↦ decided_plain below above (x ∷ rest) b (inr other)
    ]

same_or_not : (a b : List ℕ) → (a ≡ b) ⊎ (a ≢ b)
same_or_not [] [] = inl refl
same_or_not [] (y ∷ b) = inr (λ e. cc)
same_or_not (x ∷ a) [] = inr (λ e. cc)
same_or_not (x ∷ a) (y ∷ b) =
    elim (cases_eq x y) [
      | inr other ↦ inr (λ e. other (ap (λ l. get_or l 0 0) e))
      | inl first ↦ elim (same_or_not a b) [
        | inl e ↦ inl (same_cons x y a b first e)
        | inr differ ↦ inr (λ e. differ (ap (drop 1) e))
      ]
    ]

one_or_none : (names : List (List ℕ)) (word : List ℕ) → IsOneOf names word ⊎ (IsOneOf names word → ⊥)
one_or_none [] word = inr (λ h. h)
one_or_none (name ∷ names) word =
    elim (same_or_not word name) [
      | inl same ↦ inl (inl same)
      | inr differ ↦ elim (one_or_none names word) [
        | inl h ↦ inl (inr h)
        | inr none ↦ inr (λ h. elim h [ inl e ↦ differ e | inr k ↦ none k ])
      ]
    ]

-- one of some names
pub decided_name : (names : List (List ℕ)) → 0 < length names → IsDecided (IsOneOf names)
decided_name names some word =
    elim (one_or_none names word) [
      | inl h ↦ inl h
      | inr none ↦ inr (most_shared names word, bad_name names word some none)
    ]

-- a word and what stands behind it
pub decided_pair : {V : Type 0} (mark : ℕ) (Word Rest : V → List ℕ → Type 0) → AreWords mark Word Rest → IsDecided (SaysSome Word) → ((v : V) (word : List ℕ) → Word v word → IsDecided (Rest v)) → IsDecided (SaysPair mark Word Rest)
decided_pair mark Word Rest are words rests text =
    let end : ℕ = (end_of mark text).0 in
    let w : IsWordEnd mark text end = (end_of mark text).1 in
    elim (words (take end text)) [
      | inr bad ↦ inr (bad.0, pair_word mark Word Rest are text end bad.0 w bad.1)
      | inl good ↦ elim (cases_lt end (length text)) [
        | inr short ↦ inr (end, pair_short mark Word Rest are text end good.0 w short good.1)
        | inl l ↦ elim (rests good.0 (take end text) good.1 (drop (end + 1) text)) [
          | inl rest ↦ inl (pair_good mark Word Rest are text end good.0 w l good.1 rest)
          | inr bad ↦ inr (end + 1 + bad.0, pair_rest mark Word Rest are text end bad.0 good.0 w l good.1 bad.1)
        ]
      ]
    ]

begins_with_or_not : (byte : ℕ) (text : List ℕ) → ((rest : List ℕ) × (text ≡ byte ∷ rest)) ⊎ (((rest : List ℕ) × (text ≡ byte ∷ rest)) → ⊥)
begins_with_or_not byte [] = inr (λ h. let e : [] ≡ byte ∷ h.0 = h.1 in cc)
begins_with_or_not byte (x ∷ text) =
    elim (cases_eq x byte) [
      | inl same ↦ inl (text, ap (λ y. y ∷ text) same)
      | inr other ↦ inr (λ h. other (ap (λ l. get_or l 0 0) h.1))
    ]

-- what stands behind a space
pub behind_space : (space : ℕ) (text rest : List ℕ) (end : ℕ) → drop (end + 1) text ≡ space ∷ rest → drop (end + 1) text ≡ space ∷ drop (end + 2) text
behind_space space text rest end e =
    let count : end + 1 + 1 ≡ end + 2 = omega arith in
    let same : drop (end + 2) text ≡ rest = ap (λ n. drop n text) (sym count) ∙ sym (drop-drop 1 (end + 1) text) ∙ ap (drop 1) e in
    e ∙ ap (λ r. space ∷ r) (sym same)

-- a series, at the states that stay fine from item to item
module _ {S V : Type 0} (mark space : ℕ) (Item : S → V → List ℕ → Type 0) (May : S → V → Type 0) (next : S → V → S) (Series : S → List ℕ → Type 0) (is : IsSeries mark space Item May next Series)
    (IsFine : S → Type 0) (stays : (s : S) (v : V) (word : List ℕ) → IsFine s → Item s v word → May s v → IsFine (next s v))
    (items : (s : S) → IsFine s → IsDecided (SaysSome (Item s))) (may : (s : S) (v : V) → May s v ⊎ ¬ May s v) where
  series_behind : (s : S) (text : List ℕ) (end : ℕ) (v : V) → IsWordEnd mark text end → end < length text → Item s v (take end text) → May s v → (rest : List ℕ) → drop (end + 1) text ≡ space ∷ rest → DecidedAt (Series (next s v)) (drop (end + 2) text) → DecidedAt (Series s) text
  series_behind s text end v w l says m rest e (inl good) = inl (series_good mark space Item May next Series is s text end v w l says m (behind_space space text rest end e) good)
  series_behind s text end v w l says m rest e (inr bad) = inr (end + 2 + bad.0, series_rest mark space Item May next Series is s text end bad.0 v w l says m (behind_space space text rest end e) bad.1)

  decided_step : (s : S) (text : List ℕ) → IsFine s → ((end : ℕ) (v : V) → end < length text → IsFine (next s v) → DecidedAt (Series (next s v)) (drop (end + 2) text)) → DecidedAt (Series s) text
  decided_step s text fine behind =
      let end : ℕ = (end_of mark text).0 in
      let w : IsWordEnd mark text end = (end_of mark text).1 in
      elim (items s fine (take end text)) [
        | inr bad ↦ inr (bad.0, series_item mark space Item May next Series is s text end bad.0 w bad.1)
        | inl good ↦ elim (cases_lt end (length text)) [
          | inr last ↦ inl (series_last mark space Item May next Series is s text end good.0 w last good.1)
          | inl l ↦ elim (may s good.0) [
            | inr full ↦ inr (end, series_full mark space Item May next Series is s text end good.0 w l good.1 full)
            | inl m ↦ elim (begins_with_or_not space (drop (end + 1) text)) [
              | inr none ↦ inr (end + 1, series_space mark space Item May next Series is s text end good.0 w l good.1 m none)
              | inl h ↦ series_behind s text end good.0 w l good.1 m h.0 h.1 (behind end good.0 l (stays s good.0 (take end text) fine good.1 m))
            ]
          ]
        ]
      ]

  decided_by : (fuel : ℕ) (s : S) (text : List ℕ) → IsFine s → length text ≤ fuel → DecidedAt (Series s) text
  decided_by zero s text fine b = decided_step s text fine (λ end v l f. absurd (omega arith))
  decided_by (suc fuel) s text fine b =
      decided_step s text fine (λ end v l f. decided_by fuel (next s v) (drop (end + 2) text) f (omega (arith, length-drop (end + 2) text)))

  pub decided_series : (s : S) → IsFine s → IsDecided (Series s)
  decided_series s fine text = decided_by (length text) s text fine (omega arith)

-- a text of lines
module _ {V : Type 0} (mark : ℕ) (Line : V → List ℕ → Type 0) (Lines : List ℕ → Type 0) (are : AreLines mark Line Lines) (lines : IsDecided (SaysSome Line)) where
  lines_behind : (text : List ℕ) (end : ℕ) (v : V) → IsWordEnd mark text end → end < length text → Line v (take end text) → DecidedAt Lines (drop (end + 1) text) → DecidedAt Lines text
  lines_behind text end v w l says (inl good) = inl (line_good mark Line Lines are text end v w l says good)
  lines_behind text end v w l says (inr bad) =
      elim (cases_lt (end + 1) (length text)) [
        | inl more ↦ inr (end + 1 + bad.0, line_rest mark Line Lines are text end bad.0 v w more says bad.1)
        | inr none ↦ inl (line_last mark Line Lines are text end v w l says (drop_all (end + 1) text none))
      ]

  lines_step : (text : List ℕ) → ((end : ℕ) → end < length text → DecidedAt Lines (drop (end + 1) text)) → DecidedAt Lines text
  lines_step text behind =
      let end : ℕ = (end_of mark text).0 in
      let w : IsWordEnd mark text end = (end_of mark text).1 in
      elim (lines (take end text)) [
        | inr bad ↦ inr (bad.0, line_bad mark Line Lines are text end bad.0 w bad.1)
        | inl good ↦ elim (cases_lt end (length text)) [
          | inr short ↦ inr (end, line_short mark Line Lines are text end good.0 w short good.1)
          | inl l ↦ lines_behind text end good.0 w l good.1 (behind end l)
        ]
      ]

  lines_by : (fuel : ℕ) (text : List ℕ) → length text ≤ fuel → DecidedAt Lines text
  lines_by zero text b = lines_step text (λ end l. absurd (omega arith))
  lines_by (suc fuel) text b = lines_step text (λ end l. lines_by fuel (drop (end + 1) text) (omega (arith, length-drop (end + 1) text)))

  pub decided_lines : IsDecided Lines
  decided_lines text = lines_by (length text) text (omega arith)
