-- There is a nearest list by any measure: the best of the lists with last bit 0, or that of the lists with last bit 1.
use Rattle.std.proofs.Common.{◌≡◌, ℕ, zero, suc, ◌+◌, ◌-◌, ◌<◌, ◌≤◌, List, [], ◌∷◌, ◌++◌, length, get_or, take, ap, sym, ◌∙◌, refl, ◌⊎◌, inl, inr, arith}
use Rattle.std.proofs.lemmas.Bool.{cases_lt}
use Rattle.std.proofs.lemmas.List.{length_push, get_or_push, get_or_append_left, get_or-take, length-take-le, take_all}
use Rattle.std.proofs.lemmas.Grind.{take_at_read}
use Rattle.std.proofs.lemmas.List.Elements.{All-take, All-push}
use Rattle.bit_lists.specs.Bits.{AreBits, IsBit}
use Rattle.survivor_memory.specs.Nearest.{ComesBefore, IsFirstOfLeast, IsClosed, IsNearestBy}
use Rattle.survivor_memory.proofs.Order.{not_after_push}

-- a list of so many bits, which are 0 from a place on
record ZeroFrom (free count : ℕ) (u : List ℕ) : Type 0 where
  long : length u ≡ count
  bits : AreBits u
  zeros : (place : ℕ) → free ≤ place → place < count → get_or u place 0 ≡ 0

-- such a list with one bit more, by its front and its last bit
record Split (free n : ℕ) (v : List ℕ) : Type 0 where
  front : List ℕ
  last : ℕ
  is : v ≡ front ++ last ∷ []
  of_kind : ZeroFrom free n front
  last_is : (last ≡ 0) ⊎ (last ≡ 1)
  held : free ≤ n → last ≡ 0

zero_or_one : (x : ℕ) → x < 2 → (x ≡ 0) ⊎ (x ≡ 1)
zero_or_one zero small = inl refl
zero_or_one (suc zero) small = inr refl
zero_or_one (suc (suc x)) small = absurd (omega arith)

split : (free n : ℕ) (v : List ℕ) → ZeroFrom free (n + 1) v → Split free n v
split free n v kind = record {
  front = take n v;
  last = get_or v n 0;
  is = sym (take_all (n + 1) v (omega (arith, kind.long))) ∙ (take_at_read v n 0 (omega (arith, kind.long))).1;
  of_kind = record {
    long = length-take-le n v (omega (arith, kind.long));
    bits = All-take IsBit n v kind.bits;
    zeros = λ place from within. get_or-take n v place 0 within ∙ kind.zeros place from (omega arith);
  };
  last_is = zero_or_one (get_or v n 0) (kind.bits n 0 (omega (arith, kind.long)));
  held = λ past. kind.zeros n past (omega arith);
}

-- one bit behind a list
push : (free n : ℕ) (u : List ℕ) (x : ℕ) → ZeroFrom free n u → IsBit x → (free ≤ n → x ≡ 0) → ZeroFrom free (n + 1) (u ++ x ∷ [])
push free n u x kind bit held =
    let at_last : get_or (u ++ x ∷ []) n 0 ≡ x = get_or_push u x 0 n (omega (arith, kind.long)) in
    let inside : (k : ℕ) → k < n → get_or (u ++ x ∷ []) k 0 ≡ get_or u k 0 = λ k h. get_or_append_left u (x ∷ []) 0 k (omega (arith, kind.long)) in
    record {
      long = omega (arith, length_push u x, kind.long);
      bits = All-push IsBit u x kind.bits bit;
      zeros = λ place from within.
          elim (cases_lt place n) [
            | inl before ↦ inside place before ∙ kind.zeros place from before
            | inr behind ↦ (let same : place ≡ n = omega arith in rw same (at_last ∙ held (omega arith)))
          ];
    }

-- of two lists with last bits 0 and 1, the first comes before
by_last : (u w : List ℕ) → length u ≡ length w → ComesBefore (u ++ 0 ∷ []) (w ++ 1 ∷ [])
by_last u w same = record {
  place = length u;
  within = omega (arith, length_push u 0);
  zero = get_or_push u 0 0 (length u) refl;
  one = get_or_push w 1 0 (length u) (omega arith);
  same_behind = λ later behind within. absurd (omega (arith, length_push u 0));
}

-- the best list of a kind by a measure
abbrev Best : ℕ → ℕ → (List ℕ → ℕ) → Type 0
Best free n measure = (u : List ℕ) × IsFirstOfLeast (ZeroFrom free n) measure u (measure u)

-- a measure of the lists with one more bit
abbrev pushed : (List ℕ → ℕ) → ℕ → List ℕ → ℕ
pushed measure x u = measure (u ++ x ∷ [])

-- where the last bit is 0
last_zero : (free n : ℕ) (measure : List ℕ → ℕ) → free ≤ n → Best free n (pushed measure 0) → Best free (n + 1) measure
last_zero free n measure past best =
    let u = best.0 in (
      u ++ 0 ∷ [],
      record {
        of_kind = push free n u 0 best.1.of_kind (omega arith) (λ _. refl);
        costs = refl;
        none_less = λ v kind.
            let s = split free n v kind in
            let is : v ≡ s.front ++ 0 ∷ [] = s.is ∙ ap (λ x. s.front ++ x ∷ []) (s.held past) in
            rw is (best.1.none_less s.front s.of_kind);
        comes_first = λ v kind same.
            let s = split free n v kind in
            let is : v ≡ s.front ++ 0 ∷ [] = s.is ∙ ap (λ x. s.front ++ x ∷ []) (s.held past) in
            rw is (not_after_push u s.front 0 (best.1.of_kind.long ∙ sym s.of_kind.long) (best.1.comes_first s.front s.of_kind (rw is at same)));
      },
    )

-- where it is either, and the best list that ends in 0 costs no more
ends_in_zero : (free n : ℕ) (measure : List ℕ → ℕ) (zeros : Best free n (pushed measure 0)) (ones : Best free n (pushed measure 1)) → n < free → pushed measure 0 zeros.0 ≤ pushed measure 1 ones.0 → Best free (n + 1) measure
ends_in_zero free n measure zeros ones within less =
    let u = zeros.0 in (
      u ++ 0 ∷ [],
      record {
        of_kind = push free n u 0 zeros.1.of_kind (omega arith) (λ _. refl);
        costs = refl;
        none_less = λ v kind.
            let s = split free n v kind in
            elim s.last_is [
              | inl e ↦ (let is : v ≡ s.front ++ 0 ∷ [] = s.is ∙ ap (λ x. s.front ++ x ∷ []) e in rw is (zeros.1.none_less s.front s.of_kind))
              | inr e ↦ (let is : v ≡ s.front ++ 1 ∷ [] = s.is ∙ ap (λ x. s.front ++ x ∷ []) e in rw is (omega (arith, less, ones.1.none_less s.front s.of_kind)))
            ];
        comes_first = λ v kind same.
            let s = split free n v kind in
            elim s.last_is [
              | inl e ↦ (
                  let is : v ≡ s.front ++ 0 ∷ [] = s.is ∙ ap (λ x. s.front ++ x ∷ []) e in
                  rw is (not_after_push u s.front 0 (zeros.1.of_kind.long ∙ sym s.of_kind.long) (zeros.1.comes_first s.front s.of_kind (rw is at same)))
                  )
              | inr e ↦ (
                  let is : v ≡ s.front ++ 1 ∷ [] = s.is ∙ ap (λ x. s.front ++ x ∷ []) e in
                  rw is (inr (by_last u s.front (zeros.1.of_kind.long ∙ sym s.of_kind.long)))
                  )
            ];
      },
    )

-- or more
ends_in_one : (free n : ℕ) (measure : List ℕ → ℕ) (zeros : Best free n (pushed measure 0)) (ones : Best free n (pushed measure 1)) → n < free → pushed measure 1 ones.0 < pushed measure 0 zeros.0 → Best free (n + 1) measure
ends_in_one free n measure zeros ones within less =
    let u = ones.0 in (
      u ++ 1 ∷ [],
      record {
        of_kind = push free n u 1 ones.1.of_kind (omega arith) (λ past. absurd (omega arith));
        costs = refl;
        none_less = λ v kind.
            let s = split free n v kind in
            elim s.last_is [
              | inl e ↦ (let is : v ≡ s.front ++ 0 ∷ [] = s.is ∙ ap (λ x. s.front ++ x ∷ []) e in rw is (omega (arith, less, zeros.1.none_less s.front s.of_kind)))
              | inr e ↦ (let is : v ≡ s.front ++ 1 ∷ [] = s.is ∙ ap (λ x. s.front ++ x ∷ []) e in rw is (ones.1.none_less s.front s.of_kind))
            ];
        comes_first = λ v kind same.
            let s = split free n v kind in
            elim s.last_is [
              | inl e ↦ (
                  let is : v ≡ s.front ++ 0 ∷ [] = s.is ∙ ap (λ x. s.front ++ x ∷ []) e in
                  let here : pushed measure 0 s.front ≡ pushed measure 1 u = rw is at same in
                  absurd (omega (arith, less, here, zeros.1.none_less s.front s.of_kind))
                  )
              | inr e ↦ (
                  let is : v ≡ s.front ++ 1 ∷ [] = s.is ∙ ap (λ x. s.front ++ x ∷ []) e in
                  rw is (not_after_push u s.front 1 (ones.1.of_kind.long ∙ sym s.of_kind.long) (ones.1.comes_first s.front s.of_kind (rw is at same)))
                  )
            ];
      },
    )

-- no list is shorter than the empty one
only_empty : (v : List ℕ) → length v ≡ 0 → [] ≡ v
only_empty [] long = refl
only_empty (x ∷ v) long = absurd (omega arith)

empty : (free : ℕ) (measure : List ℕ → ℕ) → Best free 0 measure
empty free measure = (
  [],
  record {
    of_kind = record { long = refl; bits = λ k d lt. absurd (omega arith); zeros = λ place from lt. absurd (omega arith) };
    costs = refl;
    none_less = λ v kind. rw (← only_empty v kind.long) (omega arith);
    comes_first = λ v kind same. inl (only_empty v kind.long);
  },
)

best : (free n : ℕ) (measure : List ℕ → ℕ) → Best free n measure
best free zero measure = empty free measure
best free (suc n) measure =
    let zeros = best free n (pushed measure 0) in
    let one_more : suc n ≡ n + 1 = omega arith in
    rw one_more
    (elim (cases_lt n free) [
      | inl within ↦ (
          let ones = best free n (pushed measure 1) in
          elim (cases_lt (pushed measure 1 ones.0) (pushed measure 0 zeros.0)) [
            | inl less ↦ ends_in_one free n measure zeros ones within less
            | inr least ↦ ends_in_zero free n measure zeros ones within least
          ]
          )
      | inr past ↦ last_zero free n measure past zeros
    ])

-- so there is a nearest list
pub some_nearest : (measure : List ℕ → ℕ) (count : ℕ) → 6 ≤ count → (u : List ℕ) × ((least : ℕ) × IsNearestBy measure count u least)
some_nearest measure count some =
    let found = best (count - 6) count measure in
    let closed : (v : List ℕ) → ZeroFrom (count - 6) count v → IsClosed count v =
    λ v kind. record { long = kind.long; bits = kind.bits; tail = λ place within last. kind.zeros place (omega arith) within } in
    let opened : (v : List ℕ) → IsClosed count v → ZeroFrom (count - 6) count v =
    λ v kind. record { long = kind.long; bits = kind.bits; zeros = λ place from within. kind.tail place within (omega arith) } in (
      found.0,
      (
        measure found.0,
        record {
          of_kind = closed found.0 found.1.of_kind;
          costs = refl;
          none_less = λ v kind. found.1.none_less v (opened v kind);
          comes_first = λ v kind. found.1.comes_first v (opened v kind);
        },
      ),
    )
