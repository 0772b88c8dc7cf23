-- A word and what stands behind it, told apart by a mark: their places.
use Rattle.std.proofs.Common.{ℕ, ◌+◌, ◌<◌, ◌≤◌, ◌≡◌, ◌⊎◌, List, [], ◌∷◌, ◌++◌, length, take, drop, get_or, inl, inr, refl, sym, ap, ◌∙◌, subst, arith, append_assoc, append-nil, length-append}
use Rattle.std.proofs.lemmas.List.{length-take-le, take-append-drop, take_all}
use Rattle.word_grammar.specs.Marks.{HasNo, IsWordEnd}
use Rattle.word_grammar.specs.Pairs.{SaysPair, SaysSome}
use Rattle.word_grammar.specs.Places.{Begins, IsBadAt, Stops}
use Rattle.word_grammar.proofs.Marks.{bare_front, bare_no, front_of_word, seam, tail_of, whole_at}
use Rattle.word_grammar.proofs.Places.{bad_behind, bad_end, bad_same}

-- what is shown once for each kind of pair: its words hold no mark, a word's value decides what may
-- stand behind it, and something may
pub record AreWords {V : Type 0} (mark : ℕ) (Word Rest : V → List ℕ → Type 0) : Type 0 where
  pub bare : (v : V) (word : List ℕ) → Word v word → HasNo mark word
  pub same : (u v : V) (word : List ℕ) → Word u word → Word v word → (rest : List ℕ) → Rest u rest → Rest v rest
  pub some : (v : V) (word : List ℕ) → Word v word → (rest : List ℕ) × Rest v rest

module _ {V : Type 0} (mark : ℕ) (Word Rest : V → List ℕ → Type 0) (are : AreWords mark Word Rest) where
  -- a word that stands in front of a pair says what the pair's rest is
  after_word : (v : V) (word rest : List ℕ) → Word v word → SaysPair mark Word Rest (word ++ mark ∷ rest) → Rest v rest
  after_word v word rest says h =
      let apart = seam mark word h.word rest h.rest (are.bare v word says) (are.bare h.value h.word h.says) h.whole in
      let again : Word h.value word = subst (Word h.value) (sym apart.0) h.says in
      subst (Rest v) (sym apart.1) (are.same h.value v word again says h.rest h.behind)

  -- a text with no mark is no pair, and the word of a pair that it begins goes on from it
  no_pair : (text : List ℕ) → HasNo mark text → ¬ SaysPair mark Word Rest text
  no_pair text bare h = bare_no mark h.word h.rest (subst (HasNo mark) h.whole bare)

  begins_word : (front : List ℕ) → HasNo mark front → Begins (SaysPair mark Word Rest) front → Begins (SaysSome Word) front
  begins_word front bare h =
      let p : SaysPair mark Word Rest (front ++ h.0) = h.1 in
      let of = front_of_word mark front h.0 p.word p.rest bare p.whole in
      (of.0, (p.value, subst (Word p.value) of.1 p.says))

  marked_word : (word : List ℕ) → HasNo mark word → Begins (SaysPair mark Word Rest) (word ++ mark ∷ []) → SaysSome Word word
  marked_word word bare h =
      let p : SaysPair mark Word Rest ((word ++ mark ∷ []) ++ h.0) = h.1 in
      let apart = seam mark word p.word h.0 p.rest bare (are.bare p.value p.word p.says) (sym (append_assoc word (mark ∷ []) h.0) ∙ p.whole) in
      (p.value, subst (Word p.value) (sym apart.0) p.says)

  word_stops : (before behind tail : List ℕ) → HasNo mark (before ++ behind) → (tail ≡ []) ⊎ ((rest : List ℕ) × (tail ≡ mark ∷ rest)) → Stops (SaysSome Word) before behind → Stops (SaysPair mark Word Rest) before (behind ++ tail)
  word_stops before (byte ∷ behind) tail bare t s =
      let front : List ℕ = before ++ byte ∷ [] in
      let whole : HasNo mark (front ++ behind) = subst (HasNo mark) (sym (append_assoc before (byte ∷ []) behind)) bare in
      λ h. s (begins_word front (bare_front mark front behind whole) h)
  word_stops before [] [] bare t s = no_pair before (subst (HasNo mark) (append-nil before) bare)
  word_stops before [] (byte ∷ rest) bare (inl e) s = absurd (cc)
  word_stops before [] (byte ∷ rest) bare (inr e) s =
      let is : byte ≡ mark = ap (λ x. get_or x 0 0) e.1 in
      λ h. s (marked_word before (subst (HasNo mark) (append-nil before) bare) (subst (λ b. Begins (SaysPair mark Word Rest) (before ++ b ∷ [])) is h))

  begins_pair : (text : List ℕ) → Begins (SaysSome Word) text → Begins (SaysPair mark Word Rest) text
  begins_pair text h =
      let v : V = h.1.0 in
      let says : Word v (text ++ h.0) = h.1.1 in
      let rest = are.some v (text ++ h.0) says in (
        h.0 ++ mark ∷ rest.0,
        record {
          value = v;
          word = text ++ h.0;
          rest = rest.0;
          whole = sym (append_assoc text h.0 (mark ∷ rest.0));
          says = says;
          behind = rest.1;
        },
      )

  -- the place of a bad word is that of the text
  pub pair_word : (text : List ℕ) (end at : ℕ) → IsWordEnd mark text end → IsBadAt (SaysSome Word) (take end text) at → IsBadAt (SaysPair mark Word Rest) text at
  pair_word text end at w h = record {
    before = h.before;
    behind = h.behind ++ drop end text;
    whole = sym (take-append-drop end text) ∙ ap (λ x. x ++ drop end text) h.whole ∙ append_assoc h.before h.behind (drop end text);
    place = h.place;
    begins = begins_pair h.before h.begins;
    stops = word_stops h.before h.behind (drop end text) (subst (HasNo mark) h.whole w.bare) (tail_of mark text end w) h.stops;
  }

  -- a good word with no mark behind it is bad at its end
  pub pair_short : (text : List ℕ) (end : ℕ) (v : V) → IsWordEnd mark text end → length text ≤ end → Word v (take end text) → IsBadAt (SaysPair mark Word Rest) text end
  pair_short text end v w l says =
      let same : take end text ≡ text = take_all end text l in
      let good : Word v text = subst (Word v) same says in
      let size : length text ≡ end = omega (arith, w.within) in
      subst (IsBadAt (SaysPair mark Word Rest) text) size
      (bad_end (SaysPair mark Word Rest) text (begins_pair text ([], (v, subst (Word v) (sym (append-nil text)) good))) (no_pair text (are.bare v text good)))

  -- behind a good word and the mark, the rest's place decides
  pub pair_rest : (text : List ℕ) (end at : ℕ) (v : V) → IsWordEnd mark text end → end < length text → Word v (take end text) → IsBadAt (Rest v) (drop (end + 1) text) at → IsBadAt (SaysPair mark Word Rest) text (end + 1 + at)
  pair_rest text end at v w l says h =
      let word : List ℕ = take end text in
      let front : List ℕ = word ++ mark ∷ [] in
      let Kind : List ℕ → Type 0 = SaysPair mark Word Rest in
      let joined : (s : List ℕ) → front ++ s ≡ word ++ mark ∷ s = λ s. append_assoc word (mark ∷ []) s in
      let bad : IsBadAt (λ s. Kind (front ++ s)) (drop (end + 1) text) at =
      bad_same (Rest v) (λ s. Kind (front ++ s)) (drop (end + 1) text) at
      (λ s r. subst Kind (sym (joined s)) (record { value = v; word = word; rest = s; whole = refl; says = says; behind = r }))
      (λ s p. after_word v word s says (subst Kind (joined s) p)) h in
      let size : length front ≡ end + 1 = omega (arith, length-append word (mark ∷ []), length-take-le end text w.within) in
      subst (λ x. IsBadAt Kind text (x + at)) size
      (subst (λ x. IsBadAt Kind x (length front + at)) (joined (drop (end + 1) text) ∙ sym (whole_at mark text end w l)) (bad_behind Kind front (drop (end + 1) text) at bad))

  -- and a good rest makes a good text
  pub pair_good : (text : List ℕ) (end : ℕ) (v : V) → IsWordEnd mark text end → end < length text → Word v (take end text) → Rest v (drop (end + 1) text) → SaysPair mark Word Rest text
  pair_good text end v w l says rest = record {
    value = v;
    word = take end text;
    rest = drop (end + 1) text;
    whole = whole_at mark text end w l;
    says = says;
    behind = rest;
  }
