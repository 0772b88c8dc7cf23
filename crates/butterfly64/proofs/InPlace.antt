-- Staged sums in place, in mirror order, by halves of a list.
use Rattle.std.proofs.Common.{◌≡◌, ℕ, zero, suc, ◌+◌, ◌-◌, ◌*◌, ◌/◌, ◌%◌, ◌^◌, ◌<◌, ◌≤◌, List, ◌++◌, length, refl, ap, sym, ◌∙◌, arith, inl, inr, eqb, leb, length-append, true}
use Rattle.std.proofs.lemmas.Bool.{cases_lt, cases_eq, eqb-true, leb-true, agree_below_at}
use Rattle.std.proofs.lemmas.List.{get_or_append_left, get_or-append_right}
use Rattle.std.proofs.Math.Nat.{pow-suc}
use Rattle.fixed_complex.specs.declared.Cx.{Cx}
use Rattle.fixed_complex.specs.Pairs.{zero_pair, plus, minus, conjugate, scaled_product}
use Rattle.butterfly64.specs.StagedSums.{stage_turn, up_at, half_sums, turned_differences, down_at, up_sums, down_sums}
use Rattle.fixed_complex.specs.PairLists.{entry, PairsOfSize}
use Rattle.butterfly64.specs.MirrorOrder.{mirror_of}
use Rattle.fixed_complex.proofs.PairSizes.{wider, size-plus, size-minus, size-conjugate, size-scaled_product}
use Rattle.fixed_complex.proofs.TurnLaws.{turn-size}
use Rattle.butterfly64.proofs.StagedSizes.{grown_by, size-up_at}
use Rattle.butterfly64.proofs.Mirrors.{mirror_of-even, mirror_of-odd, mirror_of-below, mirror_of-undone}
use Rattle.butterfly64.proofs.Halves.{same_functions, joined-first, joined-last, up_at-local, down_at-local, down_at-even, down_at-odd}
use Rattle.fixed_complex.proofs.PairLists.{is_by_place}

-- the entries of a list's first and of its last half
pub entry-first : (xs ys : List Cx) (n : ℕ) → n < length xs → entry (xs ++ ys) n ≡ entry xs n
entry-first xs ys n h = get_or_append_left xs ys zero_pair n h

pub entry-last : (xs ys : List Cx) (p n : ℕ) → length xs ≡ p → entry (xs ++ ys) (p + n) ≡ entry ys n
entry-last xs ys p n h =
    let there : p + n - p ≡ n = omega arith in
    get_or-append_right xs ys p (p + n) zero_pair h (omega arith) ∙ ap (entry ys) there

-- the pairs of a list in mirror order
abbrev pub mirrored : ℕ → List Cx → ℕ → Cx
mirrored k xs m = entry xs (mirror_of k m)

-- one list has at its places the sums of the other, which is in mirror order
pub record IsUp (k : ℕ) (xs sums : List Cx) : Type 0 where
  pub each : (n : ℕ) → n < 2 ^ k → entry sums n ≡ up_at k (mirrored k xs) n

-- one list has the sums of the other, in mirror order
pub record IsDown (k : ℕ) (xs sums : List Cx) : Type 0 where
  pub each : (n : ℕ) → n < 2 ^ k → entry sums (mirror_of k n) ≡ down_at k (entry xs) n

-- even places are those of the first half
mirrored-even : (k : ℕ) (xs ys : List Cx) → length xs ≡ 2 ^ k → (λ m. mirrored (suc k) (xs ++ ys) (2 * m)) ≡ mirrored k xs
mirrored-even k xs ys long = same_functions _ _ (λ m.
    ap (entry (xs ++ ys)) (mirror_of-even k m) ∙ entry-first xs ys (mirror_of k m) (omega (arith, mirror_of-below k m)))

-- odd ones are those of the last
mirrored-odd : (k : ℕ) (xs ys : List Cx) → length xs ≡ 2 ^ k → (λ m. mirrored (suc k) (xs ++ ys) (2 * m + 1)) ≡ mirrored k ys
mirrored-odd k xs ys long = same_functions _ _ (λ m.
    ap (entry (xs ++ ys)) (mirror_of-odd k m) ∙ entry-last xs ys (2 ^ k) (mirror_of k m) long)

-- what a join of two halves does
pub record IsJoin (k : ℕ) (es os first last : List Cx) : Type 0 where
  pub sums : (j : ℕ) → j < 2 ^ k → entry first j ≡ plus (entry es j) (scaled_product (stage_turn k j) (entry os j))
  pub differences : (j : ℕ) → j < 2 ^ k → entry last j ≡ minus (entry es j) (scaled_product (stage_turn k j) (entry os j))

pub up_of_halves : (k : ℕ) (xs ys es os first last : List Cx) → length xs ≡ 2 ^ k → length first ≡ 2 ^ k → IsUp k xs es → IsUp k ys os → IsJoin k es os first last → IsUp (suc k) (xs ++ ys) (first ++ last)
unfolding up_at
up_of_halves k xs ys es os first last long first_long left right join = record {
  each = λ n lt.
      let even = mirrored-even k xs ys long in
      let odd = mirrored-odd k xs ys long in
      rw (even, odd) (elim (cases_lt n (2 ^ k)) [
        | inl here ↦ entry-first first last n (omega arith) ∙ join.sums n here ∙ rw (left.each n here, right.each n here) (sym (joined-first k (up_at k (mirrored k xs)) (up_at k (mirrored k ys)) n here))
        | inr there ↦
            let j = n - 2 ^ k in
            let place : 2 ^ k + j ≡ n = omega arith in
            let below : j < 2 ^ k = omega (arith, pow-suc 2 k) in
            rw (← place) (entry-last first last (2 ^ k) j first_long ∙ join.differences j below ∙ rw (left.each j below, right.each j below) (sym (joined-last k (up_at k (mirrored k xs)) (up_at k (mirrored k ys)) j below)))
      ]);
}

-- what a part into two halves does
pub record IsPart (k : ℕ) (xs ys first last : List Cx) : Type 0 where
  pub sums : (j : ℕ) → j < 2 ^ k → entry first j ≡ plus (entry xs j) (entry ys j)
  pub differences : (j : ℕ) → j < 2 ^ k → entry last j ≡ scaled_product (conjugate (stage_turn k j)) (minus (entry xs j) (entry ys j))

pub down_of_halves : (k : ℕ) (xs ys first last ss ds : List Cx) → length xs ≡ 2 ^ k → length ss ≡ 2 ^ k → IsPart k xs ys first last → IsDown k first ss → IsDown k last ds → IsDown (suc k) (xs ++ ys) (ss ++ ds)
down_of_halves k xs ys first last ss ds long ss_long part left right = record {
  each = λ n lt.
      let whole = entry (xs ++ ys) in
      let here : (m : ℕ) → m < 2 ^ k → whole m ≡ entry xs m = λ m below. entry-first xs ys m (omega arith) in
      let there : (m : ℕ) → whole (m + 2 ^ k) ≡ entry ys m = λ m. ap whole (let e : m + 2 ^ k ≡ 2 ^ k + m = omega arith in e) ∙ entry-last xs ys (2 ^ k) m long in
      let j = n / 2 in
      let below : j < 2 ^ k = omega (arith, pow-suc 2 k) in
      elim (cases_eq (n % 2) 0) [
        | inl even ↦
            let place : n ≡ 2 * j = omega arith in
            rw (place, mirror_of-even k j, down_at-even k whole j)
            (entry-first ss ds (mirror_of k j) (omega (arith, mirror_of-below k j)) ∙ left.each j below
            ∙ down_at-local k (entry first) (half_sums k whole) (λ m lt. part.sums m lt ∙ sym (rw (here m lt, there m) refl)) j)
        | inr odd ↦
            let place : n ≡ 2 * j + 1 = omega arith in
            rw (place, mirror_of-odd k j, down_at-odd k whole j)
            (entry-last ss ds (2 ^ k) (mirror_of k j) ss_long ∙ right.each j below
            ∙ down_at-local k (entry last) (turned_differences k whole) (λ m lt. part.differences m lt ∙ sym (rw (here m lt, there m) refl)) j)
      ];
}

-- ---- steps and bounds at each of the six levels
-- the turns of a level stand so far apart
pub step_of_level : (k : ℕ) → k < 6 → 32 / 2 ^ k ≡ 2 ^ (5 - k)
step_of_level k h = eqb-true _ _ (agree_below_at (λ i. eqb (32 / 2 ^ i) (2 ^ (5 - i))) (λ _. true) 6 k refl h)

-- no sum within a list is larger than 2^39
grown_within : (k : ℕ) → k < 6 → grown_by k (2 ^ 31) ≤ 2 ^ 39
grown_within k h = leb-true _ _ (agree_below_at (λ i. leb (grown_by i (2 ^ 31)) (2 ^ 39)) (λ _. true) 6 k refl h)

-- the bounds of the parts of `down`
pub parted_within : (level : ℕ) → 0 < level → 2 ^ 31 * 3 ^ (6 - level) ≤ 2 ^ 39
parted_within level h =
    let within : 6 - level < 6 = omega arith in
    leb-true _ _ (agree_below_at (λ i. leb (2 ^ 31 * 3 ^ i) (2 ^ 39)) (λ _. true) 6 (6 - level) refl within)

-- ---- sizes of halves
pub sizes-first : (s : ℕ) (xs ys : List Cx) → PairsOfSize s (xs ++ ys) → PairsOfSize s xs
sizes-first s xs ys h = record { each = λ n lt. let e = entry-first xs ys n lt in rw e at (h.each n (omega (arith, length-append xs ys))) }

pub sizes-last : (s : ℕ) (xs ys : List Cx) → PairsOfSize s (xs ++ ys) → PairsOfSize s ys
sizes-last s xs ys h = record { each = λ n lt. let e = entry-last xs ys (length xs) n refl in rw e at (h.each (length xs + n) (omega (arith, length-append xs ys))) }

-- a list of sums, given by place
pub up_sizes : (k : ℕ) (xs sums : List Cx) → k < 6 → length xs ≡ 2 ^ k → length sums ≡ 2 ^ k → PairsOfSize (2 ^ 31) xs → IsUp k xs sums → PairsOfSize (2 ^ 39) sums
up_sizes k xs sums h long as_long sizes up = record {
  each = λ n lt.
      let below : n < 2 ^ k = omega arith in
      rw (up.each n below) (wider _ (2 ^ 39) _ (grown_within k h)
      (size-up_at k (2 ^ 31) (mirrored k xs) (λ m. sizes.each (mirror_of k m) (omega (arith, mirror_of-below k m))) n));
}

-- the two lists that a part gives
pub sums_sizes : (k s : ℕ) (xs ys first last : List Cx) → length first ≡ 2 ^ k → length xs ≡ 2 ^ k → length ys ≡ 2 ^ k → PairsOfSize s xs → PairsOfSize s ys → IsPart k xs ys first last → PairsOfSize (s * 3) first
sums_sizes k s xs ys first last first_long xs_long ys_long xs_sizes ys_sizes part = record {
  each = λ n lt.
      rw (part.sums n (omega arith)) (wider (s + s) (s * 3) _ (omega arith) (size-plus s s (entry xs n) (entry ys n) (xs_sizes.each n (omega arith)) (ys_sizes.each n (omega arith))));
}

pub differences_sizes : (k s : ℕ) (xs ys first last : List Cx) → 4 ≤ s → length last ≡ 2 ^ k → length xs ≡ 2 ^ k → length ys ≡ 2 ^ k → PairsOfSize s xs → PairsOfSize s ys → IsPart k xs ys first last → PairsOfSize (s * 3) last
differences_sizes k s xs ys first last above last_long xs_long ys_long xs_sizes ys_sizes part = record {
  each = λ n lt.
      rw (part.differences n (omega arith)) (wider ((s + s) + (s + s) / 1048576 + 2) (s * 3) _ (omega arith)
      (size-scaled_product (s + s) (conjugate (stage_turn k n)) _ (size-conjugate _ _ (turn-size (2 ^ (5 - k) * n)))
      (size-minus s s (entry xs n) (entry ys n) (xs_sizes.each n (omega arith)) (ys_sizes.each n (omega arith)))));
}

-- ---- lengths of halves, and lists of one pair
pub up_of_one : (xs : List Cx) (n : ℕ) → n < 2 ^ 0 → entry xs n ≡ up_at 0 (mirrored 0 xs) n
unfolding up_at mirror_of
up_of_one xs n h = let none : n ≡ 0 = omega arith in ap (entry xs) none

pub down_of_one : (xs : List Cx) (n : ℕ) → n < 2 ^ 0 → entry xs (mirror_of 0 n) ≡ down_at 0 (entry xs) n
unfolding down_at mirror_of
down_of_one xs n h = refl

pub half_length : (level : ℕ) → 0 < level → 2 ^ level ≡ 2 ^ (level - 1) + 2 ^ (level - 1)
half_length zero h = absurd (omega arith)
half_length (suc k) h = let e : suc k - 1 ≡ k = omega arith in rw e (omega (arith, pow-suc 2 k))

-- half of a list's length, at each level above none
pub half_of : (level n : ℕ) → 0 < level → n ≡ 2 ^ level → n / 2 ≡ 2 ^ (level - 1)
half_of level n h e = omega (arith, half_length level h)

-- ---- the bounds of `down`, level by level
pub next_bound : (level : ℕ) → 0 < level → level ≤ 6 → 2 ^ 31 * 3 ^ (6 - (level - 1)) ≡ 2 ^ 31 * 3 ^ (6 - level) * 3
next_bound level h g =
    let e : 6 - (level - 1) ≡ suc (6 - level) = omega arith in
    rw (e, pow-suc 3 (6 - level)) (omega arith)

pow_at_least_one : (n : ℕ) → 1 ≤ 3 ^ n
pow_at_least_one zero = omega arith
pow_at_least_one (suc n) = omega (arith, pow-suc 3 n, pow_at_least_one n)

pub bound_above : (level : ℕ) → 4 ≤ 2 ^ 31 * 3 ^ (6 - level)
bound_above level = omega (arith, pow_at_least_one (6 - level))

pub sizes_wider : (a b : ℕ) (xs : List Cx) → a ≤ b → PairsOfSize a xs → PairsOfSize b xs
sizes_wider a b xs h s = record { each = λ n lt. wider a b (entry xs n) h (s.each n lt) }

-- ---- all 64 pairs
-- in mirror order, pairs are no larger
pub mirrored_sizes : (xs ys : List Cx) → length xs ≡ 64 → length ys ≡ 64 → ((n : ℕ) → n < 64 → entry ys n ≡ entry xs (mirror_of 6 n)) → PairsOfSize (2 ^ 31) xs → PairsOfSize (2 ^ 31) ys
mirrored_sizes xs ys xs_long ys_long mirror s = record {
  each = λ n lt.
      rw (mirror n (omega arith)) (s.each (mirror_of 6 n) (omega (arith, mirror_of-below 6 n)));
}

-- the sums of what was brought into mirror order
pub up_of_mirrored : (xs ys sums : List Cx) → length sums ≡ 64 → ((n : ℕ) → n < 64 → entry ys n ≡ entry xs (mirror_of 6 n)) → IsUp 6 ys sums → sums ≡ up_sums xs
up_of_mirrored xs ys sums long mirror up = is_by_place (up_at 6 (entry xs)) sums long (λ n lt.
    up.each n lt ∙ up_at-local 6 (mirrored 6 ys) (entry xs) (λ m below. mirror (mirror_of 6 m) (mirror_of-below 6 m) ∙ ap (entry xs) (mirror_of-undone m below)) n)

-- the sums brought out of mirror order
pub down_of_mirrored : (xs ys sums : List Cx) → length sums ≡ 64 → IsDown 6 xs ys → ((n : ℕ) → n < 64 → entry sums n ≡ entry ys (mirror_of 6 n)) → sums ≡ down_sums xs
down_of_mirrored xs ys sums long down mirror = is_by_place (down_at 6 (entry xs)) sums long (λ n lt. mirror n lt ∙ down.each n lt)
