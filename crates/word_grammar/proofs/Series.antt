-- Series of items, with a mark and a space between two: their places.
use Rattle.std.proofs.Common.{ℕ, ◌+◌, ◌<◌, ◌≤◌, ◌≡◌, ◌⊎◌, List, [], ◌∷◌, ◌++◌, length, take, drop, get_or, inl, inr, sym, ap, ◌∙◌, subst, arith, append_assoc, append-nil, length-append}
use Rattle.std.proofs.lemmas.List.{length-take-le, take-append-drop, take_all}
use Rattle.word_grammar.specs.Marks.{HasNo, IsWordEnd}
use Rattle.word_grammar.specs.Pairs.{SaysSome}
use Rattle.word_grammar.specs.Places.{Begins, IsBadAt, Stops}
use Rattle.word_grammar.proofs.Marks.{bare_front, bare_no, front_of_word, seam, tail_of, whole_at}
use Rattle.word_grammar.proofs.Places.{bad_behind, bad_same}

-- a text is an item, the mark, a space, and a series that may stand behind the item
pub record SaysMore {S V : Type 0} (mark space : ℕ) (Item : S → V → List ℕ → Type 0) (May : S → V → Type 0) (next : S → V → S) (Series : S → List ℕ → Type 0) (state : S) (text : List ℕ) : Type 0 where
  pub value : V
  pub word : List ℕ
  pub rest : List ℕ
  pub whole : text ≡ word ++ mark ∷ space ∷ rest
  pub says : Item state value word
  pub may : May state value
  pub behind : Series (next state value) rest

-- what is shown once for each kind of series, whose items may depend on a state that goes from item to
-- item: items hold no mark, an item's text decides what may stand behind it, and something may; a series
-- is one item, or an item behind which another may stand and the series from there on
pub record IsSeries {S V : Type 0} (mark space : ℕ) (Item : S → V → List ℕ → Type 0) (May : S → V → Type 0) (next : S → V → S) (Series : S → List ℕ → Type 0) : Type 0 where
  pub bare : (s : S) (v : V) (word : List ℕ) → Item s v word → HasNo mark word
  pub same : (s : S) (u v : V) (word : List ℕ) → Item s u word → Item s v word → May s u → May s v × ((rest : List ℕ) → Series (next s u) rest → Series (next s v) rest)
  pub some : (s : S) (v : V) (word : List ℕ) → Item s v word → May s v → (rest : List ℕ) × Series (next s v) rest
  pub one : (s : S) (v : V) (word : List ℕ) → Item s v word → Series s word
  pub more : (s : S) (v : V) (word rest : List ℕ) → Item s v word → May s v → Series (next s v) rest → Series s (word ++ mark ∷ space ∷ rest)
  pub parts : (s : S) (text : List ℕ) → Series s text → SaysSome (Item s) text ⊎ SaysMore mark space Item May next Series s text

module _ {S V : Type 0} (mark space : ℕ) (Item : S → V → List ℕ → Type 0) (May : S → V → Type 0) (next : S → V → S) (Series : S → List ℕ → Type 0) (is : IsSeries mark space Item May next Series) where
  -- an item that stands in front of a series and a mark says what stands behind
  after_item : (s : S) (v : V) (word rest : List ℕ) → Item s v word → Series s (word ++ mark ∷ rest) → May s v × ((more : List ℕ) × (rest ≡ space ∷ more) × Series (next s v) more)
  after_item s v word rest says h =
      elim (is.parts s (word ++ mark ∷ rest) h) [
        | inl one ↦ absurd (bare_no mark word rest (is.bare s one.0 (word ++ mark ∷ rest) one.1))
        | inr m ↦
            let apart = seam mark word m.word rest (space ∷ m.rest) (is.bare s v word says) (is.bare s m.value m.word m.says) m.whole in
            let again : Item s m.value word = subst (Item s m.value) (sym apart.0) m.says in
            let same = is.same s m.value v word again says m.may in
            (same.0, (m.rest, apart.1, same.1 m.rest m.behind))
      ]

  -- a series that has no mark is an item
  one_item : (s : S) (text : List ℕ) → HasNo mark text → Series s text → SaysSome (Item s) text
  one_item s text bare h =
      elim (is.parts s text h) [
        | inl one ↦ one
        | inr m ↦ absurd (bare_no mark m.word (space ∷ m.rest) (subst (HasNo mark) m.whole bare))
      ]

  begins_item : (s : S) (front : List ℕ) → HasNo mark front → Begins (Series s) front → Begins (SaysSome (Item s)) front
  begins_item s front bare h =
      elim (is.parts s (front ++ h.0) h.1) [
        | inl one ↦ (h.0, one)
        | inr m ↦
            let of = front_of_word mark front h.0 m.word (space ∷ m.rest) bare m.whole in
            (of.0, (m.value, subst (Item s m.value) of.1 m.says))
      ]

  marked_item : (s : S) (word : List ℕ) → HasNo mark word → Begins (Series s) (word ++ mark ∷ []) → SaysSome (Item s) word
  marked_item s word bare h =
      let joined : (word ++ mark ∷ []) ++ h.0 ≡ word ++ mark ∷ h.0 = append_assoc word (mark ∷ []) h.0 in
      elim (is.parts s (word ++ mark ∷ h.0) (subst (Series s) joined h.1)) [
        | inl one ↦ absurd (bare_no mark word h.0 (is.bare s one.0 (word ++ mark ∷ h.0) one.1))
        | inr m ↦
            let apart = seam mark word m.word h.0 (space ∷ m.rest) bare (is.bare s m.value m.word m.says) m.whole in
            (m.value, subst (Item s m.value) (sym apart.0) m.says)
      ]

  item_stops : (s : S) (before behind tail : List ℕ) → HasNo mark (before ++ behind) → (tail ≡ []) ⊎ ((rest : List ℕ) × (tail ≡ mark ∷ rest)) → Stops (SaysSome (Item s)) before behind → Stops (Series s) before (behind ++ tail)
  item_stops s before (byte ∷ behind) tail bare t stops =
      let front : List ℕ = before ++ byte ∷ [] in
      let whole : HasNo mark (front ++ behind) = subst (HasNo mark) (sym (append_assoc before (byte ∷ []) behind)) bare in
      λ h. stops (begins_item s front (bare_front mark front behind whole) h)
  item_stops s before [] [] bare t stops = λ h. stops (one_item s before (subst (HasNo mark) (append-nil before) bare) h)
  item_stops s before [] (byte ∷ rest) bare (inl e) stops = absurd (cc)
  item_stops s before [] (byte ∷ rest) bare (inr e) stops =
      let is_mark : byte ≡ mark = ap (λ x. get_or x 0 0) e.1 in
      λ h. stops (marked_item s before (subst (HasNo mark) (append-nil before) bare) (subst (λ b. Begins (Series s) (before ++ b ∷ [])) is_mark h))

  -- the place of a bad item is that of the text
  pub series_item : (s : S) (text : List ℕ) (end at : ℕ) → IsWordEnd mark text end → IsBadAt (SaysSome (Item s)) (take end text) at → IsBadAt (Series s) text at
  series_item s text end at w h = record {
    before = h.before;
    behind = h.behind ++ drop end text;
    whole = sym (take-append-drop end text) ∙ ap (λ x. x ++ drop end text) h.whole ∙ append_assoc h.before h.behind (drop end text);
    place = h.place;
    begins = (h.begins.0, is.one s h.begins.1.0 (h.before ++ h.begins.0) h.begins.1.1);
    stops = item_stops s h.before h.behind (drop end text) (subst (HasNo mark) h.whole w.bare) (tail_of mark text end w) h.stops;
  }

  -- a good item with nothing behind it is a good text
  pub series_last : (s : S) (text : List ℕ) (end : ℕ) (v : V) → IsWordEnd mark text end → length text ≤ end → Item s v (take end text) → Series s text
  series_last s text end v w l says = is.one s v text (subst (Item s v) (take_all end text l) says)

  -- a mark behind an item that none may follow is bad
  pub series_full : (s : S) (text : List ℕ) (end : ℕ) (v : V) → IsWordEnd mark text end → end < length text → Item s v (take end text) → ¬ May s v → IsBadAt (Series s) text end
  series_full s text end v w l says none = record {
    before = take end text;
    behind = mark ∷ drop (end + 1) text;
    whole = whole_at mark text end w l;
    place = sym (length-take-le end text w.within);
    begins = ([], is.one s v (take end text ++ []) (subst (Item s v) (sym (append-nil (take end text))) says));
    stops = λ h. none (after_item s v (take end text) h.0 says (subst (Series s) (append_assoc (take end text) (mark ∷ []) h.0) h.1)).0;
  }

  space_stops : (s : S) (v : V) (word behind : List ℕ) → Item s v word → ¬ ((rest : List ℕ) × (behind ≡ space ∷ rest)) → Stops (Series s) (word ++ mark ∷ []) behind
  space_stops s v word [] says none = λ h. let e : [] ≡ space ∷ (after_item s v word [] says h).1.0 = (after_item s v word [] says h).1.1 in cc
  space_stops s v word (byte ∷ behind) says none =
      λ h.
      let rest : List ℕ = byte ∷ h.0 in
      let joined : ((word ++ mark ∷ []) ++ byte ∷ []) ++ h.0 ≡ word ++ mark ∷ rest = append_assoc (word ++ mark ∷ []) (byte ∷ []) h.0 ∙ append_assoc word (mark ∷ []) rest in
      let after = after_item s v word rest says (subst (Series s) joined h.1) in
      let first : byte ≡ space = ap (λ x. get_or x 0 0) after.1.1 in
      none (behind, ap (λ x. x ∷ behind) first)

  -- behind the mark stands a space
  pub series_space : (s : S) (text : List ℕ) (end : ℕ) (v : V) → IsWordEnd mark text end → end < length text → Item s v (take end text) → May s v → ¬ ((rest : List ℕ) × (drop (end + 1) text ≡ space ∷ rest)) → IsBadAt (Series s) text (end + 1)
  series_space s text end v w l says may none =
      let word : List ℕ = take end text in
      let rest = is.some s v word says may in
      record {
        before = word ++ mark ∷ [];
        behind = drop (end + 1) text;
        whole = whole_at mark text end w l ∙ sym (append_assoc word (mark ∷ []) (drop (end + 1) text));
        place = omega (arith, length-append word (mark ∷ []), length-take-le end text w.within);
        begins = (space ∷ rest.0, subst (Series s) (sym (append_assoc word (mark ∷ []) (space ∷ rest.0))) (is.more s v word rest.0 says may rest.1));
        stops = space_stops s v word (drop (end + 1) text) says none;
      }

  -- the text in its parts, where another item follows
  whole_more : (text : List ℕ) (end : ℕ) → IsWordEnd mark text end → end < length text → drop (end + 1) text ≡ space ∷ drop (end + 2) text → text ≡ take end text ++ mark ∷ space ∷ drop (end + 2) text
  whole_more text end w l e = whole_at mark text end w l ∙ ap (λ x. take end text ++ mark ∷ x) e

  -- behind them, the series there decides
  pub series_rest : (s : S) (text : List ℕ) (end at : ℕ) (v : V) → IsWordEnd mark text end → end < length text → Item s v (take end text) → May s v → drop (end + 1) text ≡ space ∷ drop (end + 2) text → IsBadAt (Series (next s v)) (drop (end + 2) text) at → IsBadAt (Series s) text (end + 2 + at)
  series_rest s text end at v w l says may e h =
      let word : List ℕ = take end text in
      let front : List ℕ = word ++ mark ∷ space ∷ [] in
      let joined : (r : List ℕ) → front ++ r ≡ word ++ mark ∷ space ∷ r = λ r. append_assoc word (mark ∷ space ∷ []) r in
      let bad : IsBadAt (λ r. Series s (front ++ r)) (drop (end + 2) text) at =
      bad_same (Series (next s v)) (λ r. Series s (front ++ r)) (drop (end + 2) text) at
      (λ r m. subst (Series s) (sym (joined r)) (is.more s v word r says may m))
      (λ r m.
      let after = after_item s v word (space ∷ r) says (subst (Series s) (joined r) m) in
      subst (Series (next s v)) (sym (ap (drop 1) after.1.1)) after.1.2) h in
      let size : length front ≡ end + 2 = omega (arith, length-append word (mark ∷ space ∷ []), length-take-le end text w.within) in
      subst (λ x. IsBadAt (Series s) text (x + at)) size
      (subst (λ x. IsBadAt (Series s) x (length front + at)) (joined (drop (end + 2) text) ∙ sym (whole_more text end w l e)) (bad_behind (Series s) front (drop (end + 2) text) at bad))

  -- and a good series makes a good text
  pub series_good : (s : S) (text : List ℕ) (end : ℕ) (v : V) → IsWordEnd mark text end → end < length text → Item s v (take end text) → May s v → drop (end + 1) text ≡ space ∷ drop (end + 2) text → Series (next s v) (drop (end + 2) text) → Series s text
  series_good s text end v w l says may e h = subst (Series s) (sym (whole_more text end w l e)) (is.more s v (take end text) (drop (end + 2) text) says may h)
