-- The place at which a text that is read from its front is no text of characters.
use Rattle.std.proofs.Common.{◌≡◌, ℕ, ◌+◌, ◌<◌, ◌⊎◌, inl, inr, List, [], ◌∷◌, ◌++◌, length, map, get_or, take, ap, sym, ◌∙◌, subst, length-append, arith}
use Rattle.std.specs.Prelude.{All}
use Rattle.std.proofs.lemmas.List.{get_or-take, length-take-le, get_or_append_left, length-map, get_or-map}
use Rattle.character_texts.specs.Texts.{IsBadPlaceBy}

-- a text is as its front within it
same_at : (text front : List ℕ) (at : ℕ) → (front ≡ text) ⊎ (text ≡ front ++ 10 ∷ []) → at < length front → (at < length text) × (get_or text at 0 ≡ get_or front at 0)
same_at text front at (inl same) lt = (subst (λ t. at < length t) same lt, ap (λ t. get_or t at 0) (sym same))
same_at text front at (inr longer) lt =
    (omega (arith, ap length longer ∙ length-append front (10 ∷ [])), ap (λ t. get_or t at 0) longer ∙ get_or_append_left front (10 ∷ []) 0 at lt)

-- the characters so far are characters of values
read_so_far : (IsValue IsCharacter : ℕ → Type 0) (character : ℕ → ℕ) → ((value : ℕ) → IsValue value → IsCharacter (character value)) → (front values : List ℕ) (at place : ℕ) → at < length front → map character values ≡ take at front → All IsValue values → place < at → IsCharacter (get_or front place 0)
read_so_far IsValue IsCharacter character written front values at place lt so_far are below =
    let count : length values ≡ at =
    sym (length-map values character) ∙ ap length so_far ∙ length-take-le at front (omega arith) in
    let here : place < length values = omega arith in
    let read : character (get_or values place 0) ≡ get_or front place 0 =
    sym (get_or-map character values place 0 0 here) ∙ ap (λ t. get_or t place 0) so_far ∙ get_or-take at front place 0 below in
    subst IsCharacter read (written (get_or values place 0) (are place 0 here))

pub bad_place : (IsValue IsCharacter : ℕ → Type 0) (character : ℕ → ℕ) → ((value : ℕ) → IsValue value → IsCharacter (character value)) → (text front values : List ℕ) (at : ℕ) → (front ≡ text) ⊎ (text ≡ front ++ 10 ∷ []) → ((place : ℕ) → place + 1 ≡ length text → get_or text place 0 ≡ 10 → text ≡ front ++ 10 ∷ []) → at < length front → map character values ≡ take at front → All IsValue values → (IsCharacter (get_or front at 0) → ⊥) → IsBadPlaceBy IsCharacter text at
bad_place IsValue IsCharacter character written text front values at begins stripped lt so_far are none =
    let here = same_at text front at begins lt in
    record {
      within = here.0;
      no_character = λ is. none (subst IsCharacter here.1 is);
      no_final_newline = λ both. let longer = stripped at both.1 both.0 in absurd (omega (arith, both.1, ap length longer ∙ length-append front (10 ∷ [])));
      least = λ place below.
          let there = same_at text front place begins (omega arith) in
          subst IsCharacter (sym there.1) (read_so_far IsValue IsCharacter character written front values at place lt so_far are below);
    }
