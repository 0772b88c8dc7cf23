-- Words that are one of some names: the place of a word that is none.
use Rattle.std.proofs.Common.{ℕ, zero, suc, Bool, true, false, cond, ◌+◌, ◌<◌, ◌≤◌, ◌≡◌, List, [], ◌∷◌, ◌++◌, length, take, drop, get_or, inl, inr, nat_eq, refl, sym, ap, ◌∙◌, subst, arith}
use Rattle.std.specs.List.{common_prefix_len}
use Rattle.std.proofs.lemmas.Bool.{cases_lt, eq-eqb, eqb-true}
use Rattle.std.proofs.lemmas.List.{get_or_default, take_all, take_more}
use Rattle.std.proofs.lemmas.List.Sums.{common_prefix_len-le}
use Rattle.word_grammar.specs.Names.{IsOneOf, most_shared}
use Rattle.word_grammar.specs.Places.{Begins, IsBadAt}
use Rattle.word_grammar.proofs.Marks.{same_cons}
use Rattle.word_grammar.proofs.Places.{bad_byte, bad_end}

shared_cons : (x y : ℕ) (a b : List ℕ) (n : ℕ) (same : Bool) → same ≡ nat_eq x y → b ≡ take n a ++ drop n b → y ∷ b ≡ take (cond same (1 + n) 0) (x ∷ a) ++ drop (cond same (1 + n) 0) (y ∷ b)
shared_cons x y a b n false t e = refl
shared_cons x y a b n true t e =
    let more : 1 + n ≡ suc n = omega arith in
    let first : y ≡ x = sym (eqb-true x y (sym t)) in
    subst (λ m. y ∷ b ≡ take m (x ∷ a) ++ drop m (y ∷ b)) (sym more) (same_cons y x b (take n a ++ drop n b) first e)

-- what two lists share is a front of both
shared_is : (a b : List ℕ) → b ≡ take (common_prefix_len nat_eq a b) a ++ drop (common_prefix_len nat_eq a b) b
shared_is [] b = refl
shared_is (x ∷ a) [] = refl
shared_is (x ∷ a) (y ∷ b) = shared_cons x y a b (common_prefix_len nat_eq a b) (nat_eq x y) refl (shared_is a b)

-- a front of both is no longer than that
shared_most : (a b rest : List ℕ) (n : ℕ) → n ≤ length a → b ≡ take n a ++ rest → n ≤ common_prefix_len nat_eq a b
shared_most a b rest zero l e = omega arith
shared_most [] b rest (suc n) l e = absurd (omega arith)
shared_most (x ∷ a) [] rest (suc n) l e = absurd (cc)
shared_most (x ∷ a) (y ∷ b) rest (suc n) l e =
    let first : nat_eq x y ≡ true = eq-eqb x y (sym (ap (λ z. get_or z 0 0) e)) in
    let more : n ≤ common_prefix_len nat_eq a b = shared_most a b rest n (omega arith) (ap (drop 1) e) in
    rw first (omega arith)

most_within : (names : List (List ℕ)) (word : List ℕ) → most_shared names word ≤ length word
most_within [] word = omega arith
most_within (name ∷ names) word = omega (arith, most_within names word, (common_prefix_len-le nat_eq word name).0)

begins_name : (name word : List ℕ) (names : List (List ℕ)) → Begins (IsOneOf (name ∷ names)) (take (common_prefix_len nat_eq word name) word)
begins_name name word names = (drop (common_prefix_len nat_eq word name) name, inl (sym (shared_is word name)))

-- the bytes that are shared begin a name
most_begins : (names : List (List ℕ)) (word : List ℕ) → 0 < length names → Begins (IsOneOf names) (take (most_shared names word) word)
most_begins [] word l = absurd (omega arith)
most_begins (name ∷ []) word l =
    let only : most_shared (name ∷ []) word ≡ common_prefix_len nat_eq word name = omega arith in
    subst (λ n. Begins (IsOneOf (name ∷ [])) (take n word)) (sym only) (begins_name name word [])
most_begins (name ∷ other ∷ names) word l =
    let names' : List (List ℕ) = other ∷ names in
    elim (cases_lt (common_prefix_len nat_eq word name) (most_shared names' word)) [
      | inl less ↦
          let largest : most_shared (name ∷ names') word ≡ most_shared names' word = omega arith in
          let h : Begins (IsOneOf names') (take (most_shared names' word) word) = most_begins (other ∷ names) word (omega arith) in
          subst (λ n. Begins (IsOneOf (name ∷ names')) (take n word)) (sym largest) (h.0, inr h.1)
      | inr least ↦
          let largest : most_shared (name ∷ names') word ≡ common_prefix_len nat_eq word name = omega arith in
          subst (λ n. Begins (IsOneOf (name ∷ names')) (take n word)) (sym largest) (begins_name name word names')
    ]

-- and no more do
most_stops : (names : List (List ℕ)) (word : List ℕ) (n : ℕ) → n ≤ length word → most_shared names word < n → ¬ Begins (IsOneOf names) (take n word)
most_stops [] word n l less h = h.1
most_stops (name ∷ names) word n l less h =
    elim h.1 [
      | inl e ↦ omega (arith, shared_most word name h.0 n l (sym e))
      | inr k ↦ most_stops names word n l (omega arith) (h.0, k)
    ]

-- a word that is none of the names is bad at the most bytes that it shares with one of them
pub bad_name : (names : List (List ℕ)) (word : List ℕ) → 0 < length names → ¬ IsOneOf names word → IsBadAt (IsOneOf names) word (most_shared names word)
bad_name names word l none =
    let Kind : List ℕ → Type 0 = IsOneOf names in
    let n : ℕ = most_shared names word in
    let begins : Begins Kind (take n word) = most_begins names word l in
    elim (cases_lt n (length word)) [
      | inl less ↦
          let byte : ℕ = get_or word n 0 in
          let more : take (n + 1) word ≡ take n word ++ byte ∷ [] = take_more word n 0 less in
          let again : byte ≡ get_or word n byte = get_or_default word n 0 byte less in
          bad_byte Kind word n byte less begins
          (subst (λ x. ¬ Begins Kind x) (more ∙ ap (λ x. take n word ++ x ∷ []) again) (most_stops names word (n + 1) (omega arith) (omega arith)))
      | inr all ↦
          let size : length word ≡ n = omega (arith, most_within names word) in
          subst (IsBadAt Kind word) size (bad_end Kind word (subst (Begins Kind) (take_all n word all) begins) none)
    ]
