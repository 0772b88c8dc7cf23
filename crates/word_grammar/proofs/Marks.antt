-- Marks between words.
use Rattle.std.proofs.Common.{ℕ, suc, ◌+◌, ◌<◌, ◌≤◌, ◌≡◌, ◌≢◌, ◌⊎◌, inl, inr, List, [], ◌∷◌, ◌++◌, refl, length, take, drop, get_or, Option, Bool, true, not, position, unwrap_or, sym, ap, ◌∙◌, subst, arith}
use Rattle.std.specs.List.{position_or_len}
use Rattle.std.specs.Prelude.{◌==◌}
use Rattle.std.proofs.lemmas.Bool.{cases_lt, eqb-true, eqb-false}
use Rattle.std.proofs.lemmas.Bool.Decides.{nat_tests}
use Rattle.std.proofs.lemmas.List.{length-drop, take-append-drop, drop_all, drop_more, get_or-take, length-take-le}
use Rattle.std.proofs.lemmas.List.Sums.{fails_before_first, passes_at_first, prefix_len-le-length}
use Rattle.word_grammar.specs.Marks.{HasNo, IsWordEnd}

-- a word in which each byte is none
pub bare_by_byte : (mark : ℕ) (word : List ℕ) → ((k : ℕ) → k < length word → get_or word k 0 ≢ mark) → HasNo mark word
bare_by_byte mark [] f = tt
bare_by_byte mark (x ∷ word) f = (f 0 (omega arith), bare_by_byte mark word (λ k l. f (suc k) (omega arith)))

-- the place of the first mark is a word's end
word_ends : (mark : ℕ) (text : List ℕ) (end : ℕ) → end ≡ position_or_len (λ byte. byte == mark) text → end ≤ length text → IsWordEnd mark text end
word_ends mark text end e l =
    let p : ℕ → Bool = λ byte. byte == mark in
    record {
      within = l;
      bare = bare_by_byte mark (take end text) (λ k lt. let k' : k < end = omega (arith, length-take-le end text l) in
          subst (λ x. x ≢ mark) (sym (get_or-take end text k 0 k')) (eqb-false _ mark (fails_before_first p text k 0 (subst (λ x. k < x) e k'))));
      behind = elim (cases_lt end (length text)) [
        | inl lt ↦ inr (drop_more text end 0 lt ∙ ap (λ x. x ∷ drop (end + 1) text) (eqb-true _ mark (subst (λ x. p (get_or text x 0) ≡ true) (sym e) (passes_at_first p text 0 (subst (λ x. x < length text) e lt)))))
        | inr ge ↦ inl (drop_all end text ge)
      ];
    }

-- and so is the length, where there is none
pub word_end_is : (mark : ℕ) (text : List ℕ) (first : Option ℕ) (end : ℕ) → first ≡ position (λ byte. byte == mark) text → end ≡ unwrap_or first (length text) → IsWordEnd mark text end
word_end_is mark text first end e f =
    let at : ℕ = position_or_len (λ byte. byte == mark) text in
    let l : at ≤ length text = prefix_len-le-length (λ byte. not (byte == mark)) text in
    let same : end ≡ at = grind (arith, nat_tests) in
    word_ends mark text end same (omega arith)

-- a list with the mark holds it
pub bare_no : (mark : ℕ) (front rest : List ℕ) → HasNo mark (front ++ mark ∷ rest) → ⊥
bare_no mark [] rest h = h.0 refl
bare_no mark (x ∷ front) rest h = bare_no mark front rest h.1

pub bare_front : (mark : ℕ) (front rest : List ℕ) → HasNo mark (front ++ rest) → HasNo mark front
bare_front mark [] rest h = tt
bare_front mark (x ∷ front) rest h = (h.0, bare_front mark front rest h.1)

pub bare_append : (mark : ℕ) (front rest : List ℕ) → HasNo mark front → HasNo mark rest → HasNo mark (front ++ rest)
bare_append mark [] rest h k = k
bare_append mark (x ∷ front) rest h k = (h.0, bare_append mark front rest h.1 k)

pub same_cons : (x y : ℕ) (a b : List ℕ) → x ≡ y → a ≡ b → x ∷ a ≡ y ∷ b
same_cons x y a b e f = ap (λ z. z ∷ a) e ∙ ap (λ r. y ∷ r) f

-- two words with a space between
pub joined : (a b c d : List ℕ) → a ≡ b → c ≡ d → a ++ 32 ∷ c ≡ b ++ 32 ∷ d
joined a b c d e f = ap (λ x. x ++ 32 ∷ c) e ∙ ap (λ x. b ++ 32 ∷ x) f

-- the first mark tells a word and what stands behind it apart
pub seam : (mark : ℕ) (a b s t : List ℕ) → HasNo mark a → HasNo mark b → a ++ mark ∷ s ≡ b ++ mark ∷ t → (a ≡ b) × (s ≡ t)
seam mark [] [] s t p q e = (refl, ap (drop 1) e)
seam mark [] (y ∷ b) s t p q e = absurd (q.0 (sym (ap (λ x. get_or x 0 0) e)))
seam mark (x ∷ a) [] s t p q e = absurd (p.0 (ap (λ x. get_or x 0 0) e))
seam mark (x ∷ a) (y ∷ b) s t p q e =
    let first : x ≡ y = ap (λ x. get_or x 0 0) e in
    let more = seam mark a b s t p.1 q.1 (ap (drop 1) e) in
    (same_cons x y a b first more.0, more.1)

-- a front with no mark is one of the word
pub front_of_word : (mark : ℕ) (front behind word rest : List ℕ) → HasNo mark front → front ++ behind ≡ word ++ mark ∷ rest → (more : List ℕ) × (word ≡ front ++ more) × (behind ≡ more ++ mark ∷ rest)
front_of_word mark [] behind word rest h e = (word, refl, e)
front_of_word mark (x ∷ front) behind [] rest h e = absurd (h.0 (ap (λ x. get_or x 0 0) e))
front_of_word mark (x ∷ front) behind (y ∷ word) rest h e =
    let first : x ≡ y = ap (λ x. get_or x 0 0) e in
    let of = front_of_word mark front behind word rest h.1 (ap (drop 1) e) in
    (of.0, same_cons y x word (front ++ of.0) (sym first) of.1, of.2)

-- where a text goes on behind its first word, the mark stands there
pub whole_at : (mark : ℕ) (text : List ℕ) (end : ℕ) → IsWordEnd mark text end → end < length text → text ≡ take end text ++ mark ∷ drop (end + 1) text
whole_at mark text end h l =
    let behind : drop end text ≡ mark ∷ drop (end + 1) text = elim h.behind [
      | inl none ↦ absurd (omega (arith, ap length none, length-drop end text))
      | inr e ↦ e
    ] in
    sym (take-append-drop end text) ∙ ap (λ x. take end text ++ x) behind

-- what stands behind a text's first word
pub tail_of : (mark : ℕ) (text : List ℕ) (end : ℕ) → IsWordEnd mark text end → (drop end text ≡ []) ⊎ ((rest : List ℕ) × (drop end text ≡ mark ∷ rest))
tail_of mark text end w = elim w.behind [ inl none ↦ inl none | inr e ↦ inr (drop (end + 1) text, e) ]

-- each text has a first word
pub end_of : (mark : ℕ) (text : List ℕ) → (end : ℕ) × IsWordEnd mark text end
end_of mark text =
    let end : ℕ = position_or_len (λ byte. byte == mark) text in
    (end, word_ends mark text end refl (prefix_len-le-length (λ byte. not (byte == mark)) text))
