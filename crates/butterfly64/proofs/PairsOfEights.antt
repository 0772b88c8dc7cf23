-- The pairs of a list of eights, and the stages over them.
use Rattle.std.proofs.Common.{◌≡◌, ℕ, zero, suc, ◌+◌, ◌-◌, ◌*◌, ◌/◌, ◌%◌, ◌^◌, ◌<◌, ◌≤◌, List, [], ◌∷◌, ◌++◌, length, map, set, refl, ap, sym, ◌∙◌, arith, length-append, append_assoc, leb, true}
use Rattle.std.specs.List.{range_with_len}
use Rattle.std.proofs.lemmas.Bool.{leb-true, agree_below_at, agree_below}
use Rattle.std.proofs.lemmas.List.{get_or_append_left, get_or-append_right, get_or-set_same, length-set, ext_get_or}
use Rattle.std.proofs.lemmas.List.FromFn.{get_or-map-range_with_len, length-map-range_with_len}
use Rattle.std.proofs.Math.Nat.{pow-suc}
use Rattle.fixed_complex.specs.declared.Cx.{Cx}
use Rattle.fixed_complex.specs.Pairs.{zero_pair, plus, minus, conjugate, scaled_product}
use Rattle.fixed_complex.specs.Turns.{turn_at}
use Rattle.butterfly64.specs.declared.lanes.Eight.{Eight}
use Rattle.butterfly64.specs.declared.lane_turns.TheConstants.{TURNS}
use Rattle.fixed_complex.specs.PairLists.{PairsOfSize, entry}
use Rattle.butterfly64.specs.StagedSums.{stage_turn, up_at, down_at}
use Rattle.butterfly64.specs.MirrorOrder.{mirror_of}
use Rattle.butterfly64.specs.Lanes.{lane, eight_in, pairs_of, EachWithin, EachOfSize}
use Rattle.fixed_complex.proofs.ByTable.{same_pairs, are_same}
use Rattle.fixed_complex.proofs.PairSizes.{within-size, within_wider}
use Rattle.butterfly64.proofs.Mirrors.{mirror_of-below}
use Rattle.butterfly64.proofs.Halves.{same_functions, down_at-local}
use Rattle.butterfly64.proofs.InPlace.{mirrored, IsUp, IsDown, IsJoin, IsPart}

pub length-pairs_of : (xs : List Eight) → length (pairs_of xs) ≡ 8 * length xs
unfolding pairs_of
length-pairs_of [] = refl
length-pairs_of (x ∷ xs) = omega (arith, length-append (map (lane x) (range_with_len 0 8)) (pairs_of xs), length-pairs_of xs)

pub pairs_of-append : (xs ys : List Eight) → pairs_of (xs ++ ys) ≡ pairs_of xs ++ pairs_of ys
unfolding pairs_of
pairs_of-append [] ys = refl
pairs_of-append (x ∷ xs) ys = rw (pairs_of-append xs ys) (sym (append_assoc (map (lane x) (range_with_len 0 8)) (pairs_of xs) (pairs_of ys)))

-- the pair at a place
pub entry-pairs_of : (xs : List Eight) (c l : ℕ) → c < length xs → l < 8 → entry (pairs_of xs) (8 * c + l) ≡ lane (eight_in xs c) l
unfolding pairs_of
entry-pairs_of [] c l c_below l_below = absurd (omega arith)
entry-pairs_of (x ∷ xs) zero l c_below l_below =
    let place : 8 * 0 + l ≡ l = omega arith in
    ap (entry (map (lane x) (range_with_len 0 8) ++ pairs_of xs)) place
    ∙ get_or_append_left (map (lane x) (range_with_len 0 8)) (pairs_of xs) zero_pair l (omega (arith, length-map-range_with_len (lane x) 0 8))
    ∙ get_or-map-range_with_len (lane x) 0 8 l l zero_pair l_below (omega arith)
entry-pairs_of (x ∷ xs) (suc c) l c_below l_below =
    let place : 8 * suc c + l - 8 ≡ 8 * c + l = omega arith in
    get_or-append_right (map (lane x) (range_with_len 0 8)) (pairs_of xs) 8 (8 * suc c + l) zero_pair (length-map-range_with_len (lane x) 0 8) (omega arith)
    ∙ ap (entry (pairs_of xs)) place
    ∙ entry-pairs_of xs c l (omega arith) l_below

pub entry-pairs_at : (xs : List Eight) (n : ℕ) → n < 8 * length xs → entry (pairs_of xs) n ≡ lane (eight_in xs (n / 8)) (n % 8)
entry-pairs_at xs n h =
    let place : n ≡ 8 * (n / 8) + n % 8 = omega arith in
    ap (entry (pairs_of xs)) place ∙ entry-pairs_of xs (n / 8) (n % 8) (omega arith) (omega arith)

-- the sizes of the pairs in lanes
pub lanes_of_size : (s : ℕ) (xs : List Eight) (c : ℕ) → c < length xs → PairsOfSize s (pairs_of xs) → EachOfSize s (eight_in xs c)
lanes_of_size s xs c h sizes = record { each = λ l lt. let e = entry-pairs_of xs c l h lt in rw e at (sizes.each (8 * c + l) (omega (arith, length-pairs_of xs))) }

pub lanes_within : (xs : List Eight) (c bound : ℕ) → 2 ^ 39 ≤ bound → c < length xs → PairsOfSize (2 ^ 39) (pairs_of xs) → EachWithin bound (eight_in xs c)
lanes_within xs c bound h below sizes = record { each = λ l lt. within_wider (2 ^ 39) bound _ h (within-size (2 ^ 39) _ ((lanes_of_size (2 ^ 39) xs c below sizes).each l lt)) }

-- ---- the turns of the stages over eights
turns_of_eights : (k : ℕ) → k < 3 → (j : ℕ) → j < 2 ^ (k + 3) → lane (eight_in TURNS (2 ^ k + 2 + j / 8)) (j % 8) ≡ stage_turn (k + 3) j
unfolding turn_at
turns_of_eights k k_below j j_below =
    are_same _ _ (agree_below_at (λ j. same_pairs (lane (eight_in TURNS (2 ^ k + 2 + j / 8)) (j % 8)) (stage_turn (k + 3) j)) (λ _. true) (2 ^ (k + 3)) j (agree_below_at (λ k. agree_below (λ j. same_pairs (lane (eight_in TURNS (2 ^ k + 2 + j / 8)) (j % 8)) (stage_turn (k + 3) j)) (λ _. true) (2 ^ (k + 3))) (λ _. true) 3 k refl k_below) j_below)

-- eight times as many pairs as eights
pub eight_times : (k : ℕ) → 2 ^ (k + 3) ≡ 8 * 2 ^ k
eight_times k = let three : k + 3 ≡ suc (suc (suc k)) = omega arith in rw (three, pow-suc 2 (suc (suc k)), pow-suc 2 (suc k), pow-suc 2 k) (omega arith)

pub long_pairs : (k : ℕ) (xs : List Eight) → length xs ≡ 2 ^ k → length (pairs_of xs) ≡ 2 ^ (k + 3)
long_pairs k xs h = omega (arith, length-pairs_of xs, eight_times k)

pub join_of_eights : (k : ℕ) → k < 3 → (es os first last : List Eight) → length es ≡ 2 ^ k → length os ≡ 2 ^ k → length first ≡ 2 ^ k → length last ≡ 2 ^ k
    → ((c l : ℕ) → c < length es → l < 8 → lane (eight_in first c) l ≡ plus (lane (eight_in es c) l) (scaled_product (lane (eight_in TURNS (length es + 2 + c)) l) (lane (eight_in os c) l)))
    → ((c l : ℕ) → c < length os → l < 8 → lane (eight_in last c) l ≡ minus (lane (eight_in es c) l) (scaled_product (lane (eight_in TURNS (length es + 2 + c)) l) (lane (eight_in os c) l)))
    → IsJoin (k + 3) (pairs_of es) (pairs_of os) (pairs_of first) (pairs_of last)
join_of_eights k below es os first last es_long os_long first_long last_long sums differences = record {
  sums = λ j lt.
      let small : j < 8 * 2 ^ k = omega (arith, eight_times k) in
      let turn = turns_of_eights k below j lt in
      let here = sums (j / 8) (j % 8) (omega (arith, small)) (omega arith) in
      rw (entry-pairs_at first j (omega (arith, small)), entry-pairs_at es j (omega (arith, small)), entry-pairs_at os j (omega (arith, small)), ← turn, ← es_long) here;
  differences = λ j lt.
      let small : j < 8 * 2 ^ k = omega (arith, eight_times k) in
      let turn = turns_of_eights k below j lt in
      let here = differences (j / 8) (j % 8) (omega (arith, small)) (omega arith) in
      rw (entry-pairs_at last j (omega (arith, small)), entry-pairs_at es j (omega (arith, small)), entry-pairs_at os j (omega (arith, small)), ← turn, ← es_long) here;
}

pub part_of_eights : (k : ℕ) → k < 3 → (xs ys first last : List Eight) → length xs ≡ 2 ^ k → length ys ≡ 2 ^ k → length first ≡ 2 ^ k → length last ≡ 2 ^ k
    → ((c l : ℕ) → c < length xs → l < 8 → lane (eight_in first c) l ≡ plus (lane (eight_in xs c) l) (lane (eight_in ys c) l))
    → ((c l : ℕ) → c < length ys → l < 8 → lane (eight_in last c) l ≡ scaled_product (conjugate (lane (eight_in TURNS (length xs + 2 + c)) l)) (minus (lane (eight_in xs c) l) (lane (eight_in ys c) l)))
    → IsPart (k + 3) (pairs_of xs) (pairs_of ys) (pairs_of first) (pairs_of last)
part_of_eights k below xs ys first last xs_long ys_long first_long last_long sums differences = record {
  sums = λ j lt.
      let small : j < 8 * 2 ^ k = omega (arith, eight_times k) in
      let here = sums (j / 8) (j % 8) (omega (arith, small)) (omega arith) in
      rw (entry-pairs_at first j (omega (arith, small)), entry-pairs_at xs j (omega (arith, small)), entry-pairs_at ys j (omega (arith, small))) here;
  differences = λ j lt.
      let small : j < 8 * 2 ^ k = omega (arith, eight_times k) in
      let turn = turns_of_eights k below j lt in
      let here = differences (j / 8) (j % 8) (omega (arith, small)) (omega arith) in
      rw (entry-pairs_at last j (omega (arith, small)), entry-pairs_at xs j (omega (arith, small)), entry-pairs_at ys j (omega (arith, small)), ← turn, ← xs_long) here;
}

-- ---- one eight
-- a list of one eight, replaced
pub up_of_one_eight : (xs : List Eight) (y : Eight) → length xs ≡ 1 → ((l : ℕ) → l < 8 → lane y l ≡ up_at 3 (λ m. lane (eight_in xs 0) (mirror_of 3 m)) l) → IsUp 3 (pairs_of xs) (pairs_of (set xs 0 y))
up_of_one_eight xs y long h = record {
  each = λ n lt.
      let replaced = get_or-set_same xs 0 y (record { re = []; im = [] }) (omega arith) in
      let place : 8 * 0 + n ≡ n = omega arith in
      let pairs : (λ m. lane (eight_in xs 0) (mirror_of 3 m)) ≡ mirrored 3 (pairs_of xs) = same_functions _ _ (λ m.
      sym (ap (entry (pairs_of xs)) (let e : mirror_of 3 m ≡ 8 * 0 + mirror_of 3 m = omega arith in e) ∙ entry-pairs_of xs 0 (mirror_of 3 m) (omega arith) (mirror_of-below 3 m))) in
      ap (entry (pairs_of (set xs 0 y))) (sym place)
      ∙ entry-pairs_of (set xs 0 y) 0 n (omega (arith, length-set xs 0 y)) lt
      ∙ ap (λ e. lane e n) replaced
      ∙ h n lt
      ∙ ap (λ x. up_at 3 x n) pairs;
}

pub down_of_one_eight : (xs : List Eight) (y : Eight) → length xs ≡ 1 → ((l : ℕ) → l < 8 → lane y (mirror_of 3 l) ≡ down_at 3 (lane (eight_in xs 0)) l) → IsDown 3 (pairs_of xs) (pairs_of (set xs 0 y))
down_of_one_eight xs y long h = record {
  each = λ n lt.
      let replaced = get_or-set_same xs 0 y (record { re = []; im = [] }) (omega arith) in
      let place : 8 * 0 + mirror_of 3 n ≡ mirror_of 3 n = omega arith in
      ap (entry (pairs_of (set xs 0 y))) (sym place)
      ∙ entry-pairs_of (set xs 0 y) 0 (mirror_of 3 n) (omega (arith, length-set xs 0 y)) (mirror_of-below 3 n)
      ∙ ap (λ e. lane e (mirror_of 3 n)) replaced
      ∙ h n lt
      ∙ down_at-local 3 (lane (eight_in xs 0)) (entry (pairs_of xs)) (λ m m_lt. sym (ap (entry (pairs_of xs)) (let e : m ≡ 8 * 0 + m = omega arith in e) ∙ entry-pairs_of xs 0 m (omega arith) m_lt)) n;
}

-- ---- all pairs of eight eights
pub is_pairs_of : (xs : List Eight) (ys : List Cx) → length xs ≡ 8 → length ys ≡ 64 → ((n : ℕ) → n < 64 → lane (eight_in xs (n / 8)) (n % 8) ≡ entry ys n) → pairs_of xs ≡ ys
is_pairs_of xs ys xs_long ys_long h =
    let long : length (pairs_of xs) ≡ 64 = omega (arith, length-pairs_of xs) in
    ext_get_or zero_pair (pairs_of xs) ys (long ∙ sym ys_long)
    (λ n lt. let below : n < 64 = omega (arith, long) in entry-pairs_at xs n (omega arith) ∙ h n below)

-- ---- bounds at each level
pub most_of_level : (level : ℕ) → level ≤ 3 → 2 ^ (level - 1) ≤ 4
most_of_level level h = leb-true _ _ (agree_below_at (λ i. leb (2 ^ (i - 1)) 4) (λ _. true) 4 level refl (omega arith))

pub parts_within : (level : ℕ) → 2 ^ 31 * 3 ^ (3 - level) ≤ 2 ^ 39
parts_within level =
    let within : 3 - level < 4 = omega arith in
    leb-true _ _ (agree_below_at (λ i. leb (2 ^ 31 * 3 ^ i) (2 ^ 39)) (λ _. true) 4 (3 - level) refl within)

pub next_level : (level : ℕ) → 0 < level → level ≤ 3 → 2 ^ 31 * 3 ^ (3 - (level - 1)) ≡ 2 ^ 31 * 3 ^ (3 - level) * 3
next_level level h g =
    let e : 3 - (level - 1) ≡ suc (3 - level) = omega arith in
    rw (e, pow-suc 3 (3 - level)) (omega arith)

pub parts_above : (level : ℕ) → 4 ≤ 2 ^ 31 * 3 ^ (3 - level)
parts_above level =
    let within : 3 - level < 4 = omega arith in
    leb-true _ _ (agree_below_at (λ i. leb 4 (2 ^ 31 * 3 ^ i)) (λ _. true) 4 (3 - level) refl within)
