-- Each text has values or a bad place, and one of either.
use Rattle.std.proofs.Common.{◌≡◌, ℕ, zero, suc, ◌+◌, ◌-◌, ◌<◌, ◌⊎◌, inl, inr, List, [], ◌∷◌, ◌++◌, length, map, get_or, take, drop, ap, sym, ◌∙◌, refl, subst, length-append, arith}
use Rattle.std.specs.Prelude.{All}
use Rattle.std.proofs.lemmas.Bool.{cases_lt, cases_eq}
use Rattle.std.proofs.lemmas.List.{ext_get_or, get_or-take, length-take-le, get_or_append_left, length-map, get_or-map, take-append-drop, get_or-drop, length-drop, get_or-append_right}
use Rattle.character_texts.specs.Texts.{IsAlphabet, IsBadPlaceBy, IsTextBy}

-- what a text of values has at its places
record Reads (character : ℕ → ℕ) (text values : List ℕ) : Type 0 where
  each : (k : ℕ) → k < length values → get_or text k 0 ≡ character (get_or values k 0)
  ends : (length text ≡ length values) ⊎ ((length text ≡ length values + 1) × (get_or text (length values) 0 ≡ 10))

character_at : (character : ℕ → ℕ) (values : List ℕ) (k : ℕ) → k < length values → get_or (map character values) k 0 ≡ character (get_or values k 0)
character_at character values k lt = get_or-map character values k 0 0 lt

reads : (character : ℕ → ℕ) (text values : List ℕ) → IsTextBy character text values → Reads character text values
reads character text values (inl is) = record {
  each = λ k lt. ap (λ t. get_or t k 0) is ∙ character_at character values k lt;
  ends = inl (ap length is ∙ length-map values character);
}
reads character text values (inr is) =
    let characters = map character values in
    let count : length characters ≡ length values = length-map values character in
    let none_left : length values - length values ≡ 0 = omega arith in
    record {
      each = λ k lt. ap (λ t. get_or t k 0) is ∙ get_or_append_left characters (10 ∷ []) 0 k (omega arith) ∙ character_at character values k lt;
      ends = inr (
        ap length is ∙ length-append characters (10 ∷ []) ∙ ap (λ n. n + 1) count,
        ap (λ t. get_or t (length values) 0) is ∙ get_or-append_right characters (10 ∷ []) (length values) (length values) 0 count (omega arith) ∙ ap (λ n. get_or (10 ∷ []) n 0) none_left,
      );
    }

-- one of two texts' values can't be the longer
not_shorter : {IsValue IsCharacter : ℕ → Type 0} {character : ℕ → ℕ} → IsAlphabet IsValue IsCharacter character → (text a b : List ℕ) → Reads character text a → Reads character text b → length a < length b → ⊥
not_shorter alphabet text a b of_a of_b lt =
    let there = of_b.each (length a) lt in
    elim of_a.ends [
      | inl same ↦ elim of_b.ends [ inl same' ↦ omega (arith, same, same') | inr longer' ↦ omega (arith, same, longer'.0) ]
      | inr longer ↦ absurd (alphabet.no_newline (get_or b (length a) 0) (sym there ∙ longer.1))
    ]

pub one_text : {IsValue IsCharacter : ℕ → Type 0} {character : ℕ → ℕ} → IsAlphabet IsValue IsCharacter character → (text a b : List ℕ) → IsTextBy character text a → IsTextBy character text b → a ≡ b
one_text {IsValue} {IsCharacter} {character} alphabet text a b is_a is_b =
    let of_a = reads character text a is_a in
    let of_b = reads character text b is_b in
    let same_length : length a ≡ length b =
    elim (cases_lt (length a) (length b)) [
      | inl shorter ↦ absurd (not_shorter alphabet text a b of_a of_b shorter)
      | inr not ↦ elim (cases_lt (length b) (length a)) [
        | inl longer ↦ absurd (not_shorter alphabet text b a of_b of_a longer)
        | inr neither ↦ omega arith
      ]
    ] in
    ext_get_or 0 a b same_length (λ k lt. alphabet.alike (get_or a k 0) (get_or b k 0) (sym (of_a.each k lt) ∙ of_b.each k (omega arith)))

-- a text with values has no bad place
pub apart : {IsValue IsCharacter : ℕ → Type 0} {character : ℕ → ℕ} → IsAlphabet IsValue IsCharacter character → (text values : List ℕ) (at : ℕ) → All IsValue values → IsTextBy character text values → IsBadPlaceBy IsCharacter text at → ⊥
apart {IsValue} {IsCharacter} {character} alphabet text values at are is bad =
    let of_values = reads character text values is in
    elim (cases_lt at (length values)) [
      | inl inside ↦ bad.no_character (subst IsCharacter (sym (of_values.each at inside)) (alphabet.written (get_or values at 0) (are at 0 inside)))
      | inr behind ↦ elim of_values.ends [
        | inl same ↦ let within = bad.within in omega (arith, same, within)
        | inr longer ↦ let within = bad.within in
            let here : at ≡ length values = omega (arith, longer.0, within) in
            bad.no_final_newline (ap (λ n. get_or text n 0) here ∙ longer.1, omega (arith, longer.0, here))
      ]
    ]

pub one_place : {IsCharacter : ℕ → Type 0} (text : List ℕ) (a b : ℕ) → IsBadPlaceBy IsCharacter text a → IsBadPlaceBy IsCharacter text b → a ≡ b
one_place text a b of_a of_b =
    elim (cases_lt a b) [
      | inl before ↦ absurd (of_a.no_character (of_b.least a before))
      | inr not ↦ elim (cases_lt b a) [
        | inl behind ↦ absurd (of_b.no_character (of_a.least b behind))
        | inr neither ↦ omega arith
      ]
    ]

-- the first so many places hold characters, or there is a first one that doesn't
record FirstOther (IsCharacter : ℕ → Type 0) (text : List ℕ) (below at : ℕ) : Type 0 where
  within : at < below
  none : IsCharacter (get_or text at 0) → ⊥
  least : (place : ℕ) → place < at → IsCharacter (get_or text place 0)

scan : {IsValue IsCharacter : ℕ → Type 0} {character : ℕ → ℕ} → IsAlphabet IsValue IsCharacter character → (text : List ℕ) (n : ℕ) → ((k : ℕ) → k < n → IsCharacter (get_or text k 0)) ⊎ ((at : ℕ) × FirstOther IsCharacter text n at)
scan alphabet text zero = inl (λ k lt. absurd (omega arith))
scan {IsValue} {IsCharacter} {character} alphabet text (suc n) =
    elim (scan alphabet text n) [
      | inr found ↦ inr (found.0, record { within = omega (arith, found.1.within); none = found.1.none; least = found.1.least })
      | inl all ↦ elim (alphabet.decided (get_or text n 0)) [
        | inl here ↦ inl (λ k lt. elim (cases_eq k n) [ inl same ↦ subst (λ k. IsCharacter (get_or text k 0)) (sym same) here | inr other ↦ all k (omega arith) ])
        | inr none ↦ inr (n, record { within = omega arith; none = none; least = all })
      ]
    ]

-- characters have values
abbrev Written : (ℕ → Type 0) → (ℕ → ℕ) → List ℕ → Type 0
Written IsValue character characters = (values : List ℕ) × (All IsValue values × (characters ≡ map character values))

All-cons-value : (IsValue : ℕ → Type 0) (value : ℕ) (values : List ℕ) → IsValue value → All IsValue values → All IsValue (value ∷ values)
All-cons-value IsValue value values is are zero d lt = is
All-cons-value IsValue value values is are (suc k) d lt = are k d (omega arith)

written : {IsValue IsCharacter : ℕ → Type 0} {character : ℕ → ℕ} → IsAlphabet IsValue IsCharacter character → (characters : List ℕ) → ((k : ℕ) → k < length characters → IsCharacter (get_or characters k 0)) → Written IsValue character characters
written alphabet [] all = ([], (λ k d lt. absurd (omega arith), refl))
written {IsValue} {IsCharacter} {character} alphabet (byte ∷ characters) all =
    let here = alphabet.read byte (all 0 (omega arith)) in
    let rest = written alphabet characters (λ k lt. all (suc k) (omega arith)) in
    (here.0 ∷ rest.0, (All-cons-value IsValue here.0 rest.0 here.1.0 rest.1.0, rw (here.1.1, ← rest.1.1) refl))

-- a text whose last place is its first that holds no character, and a newline, has values
with_newline : {IsValue IsCharacter : ℕ → Type 0} {character : ℕ → ℕ} → IsAlphabet IsValue IsCharacter character → (text : List ℕ) (at : ℕ) → get_or text at 0 ≡ 10 → at + 1 ≡ length text → ((place : ℕ) → place < at → IsCharacter (get_or text place 0)) → (values : List ℕ) × (All IsValue values × IsTextBy character text values)
with_newline {IsValue} {IsCharacter} {character} alphabet text at newline end all =
    let front = take at text in
    let long : length front ≡ at = length-take-le at text (omega arith) in
    let of_front : (k : ℕ) → k < length front → IsCharacter (get_or front k 0) =
    λ k lt. subst IsCharacter (sym (get_or-take at text k 0 (omega (arith, long)))) (all k (omega (arith, long))) in
    let last : drop at text ≡ 10 ∷ [] =
    ext_get_or 0 (drop at text) (10 ∷ []) (length-drop at text ∙ (let one : length text - at ≡ 1 = omega arith in one))
    (λ k lt. let first : k ≡ 0 = omega (arith, length-drop at text) in
    get_or-drop at text k 0 ∙ (let place : at + k ≡ at = omega (arith, first) in ap (λ n. get_or text n 0) place) ∙ newline ∙ ap (λ n. get_or (10 ∷ []) n 0) (sym first)) in
    let values = written alphabet front of_front in
    (values.0, (values.1.0, inr (sym (take-append-drop at text) ∙ ap (λ t. take at text ++ t) last ∙ ap (λ t. t ++ 10 ∷ []) values.1.1)))

pub some_text : {IsValue IsCharacter : ℕ → Type 0} {character : ℕ → ℕ} → IsAlphabet IsValue IsCharacter character → (text : List ℕ) → ((values : List ℕ) × (All IsValue values × IsTextBy character text values)) ⊎ ((at : ℕ) × IsBadPlaceBy IsCharacter text at)
some_text {IsValue} {IsCharacter} {character} alphabet text =
    elim (scan alphabet text (length text)) [
      | inl all ↦ let values = written alphabet text all in inl (values.0, (values.1.0, inl values.1.1))
      | inr found ↦ elim (cases_eq (get_or text found.0 0) 10) [
        | inr no_newline ↦ inr (found.0, record { within = found.1.within; no_character = found.1.none; no_final_newline = λ both. no_newline both.0; least = found.1.least })
        | inl newline ↦ elim (cases_eq (found.0 + 1) (length text)) [
          | inr in_the_middle ↦ inr (found.0, record { within = found.1.within; no_character = found.1.none; no_final_newline = λ both. in_the_middle both.1; least = found.1.least })
          | inl at_the_end ↦ inl (with_newline alphabet text found.0 newline at_the_end found.1.least)
        ]
      ]
    ]
