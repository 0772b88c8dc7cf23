-- The six stages of `up` place by place: what stands where after each.
use Rattle.std.proofs.Common.{◌≡◌, inl, inr, ℕ, suc, ◌+◌, ◌-◌, ◌*◌, ◌/◌, ◌%◌, ◌^◌, ◌<◌, ◌≤◌, List, refl, ap, sym, ◌∙◌, arith}
use Rattle.std.proofs.lemmas.Bool.{cases_lt}
use Rattle.std.proofs.Math.Nat.{add-mul-div_left, div-eq_of_lt, mul-le-mul_left}
use Rattle.fixed_complex.specs.declared.Cx.{Cx}
use Rattle.fixed_complex.specs.Pairs.{IsOfSize, minus, plus, scaled_product}
use Rattle.fixed_complex.specs.PairLists.{PairsOfSize, entry}
use Rattle.fixed_complex.proofs.PairLists.{everywhere_of_size}
use Rattle.fixed_complex.proofs.PairSizes.{wider}
use Rattle.butterfly64.specs.declared.rows.Row.{Row}
use Rattle.butterfly64.specs.Rows.{IsJoined, RowsOfSize, apart, first_read, place_in}
use Rattle.butterfly64.specs.StagedSums.{joined, stage_turn, up_at}
use Rattle.butterfly64.proofs.Halves.{joined-first, joined-last, same_functions}
use Rattle.butterfly64.proofs.StagedSizes.{All_of_size, grown_by, size-up_at}

-- after k stages place q + s * p has sum p of the places q, q + s, q + 2s and so on, where s is 64 / 2^k
pub record Stands (k s : ℕ) (x f : ℕ → Cx) : Type 0 where
  pub each : (q p : ℕ) → q < s → p < 2 ^ k → f (q + s * p) ≡ up_at k (λ m. x (q + s * m)) p

pub stands-first : (x f : ℕ → Cx) → ((n : ℕ) → n < 64 → f n ≡ x n) → Stands 0 64 x f
unfolding up_at
stands-first x f h = record {
  each = λ q p q_below p_below.
      let at : q + 64 * p ≡ q = omega arith in
      let from : q + 64 * 0 ≡ q = omega arith in
      rw (at, from) (h q q_below);
}

-- the numbers of a stage: half as far apart, twice as many
pub record Divides (k s t : ℕ) : Type 0 where
  pub is_apart : apart k ≡ s
  pub sums : 2 ^ k ≡ t
  pub twice : 2 ^ suc k ≡ 2 * t
  pub all : s * t ≡ 32
  pub positive : 0 < s

pub divided : (q s j : ℕ) → 0 < s → q < s → (q + s * j) / s ≡ j
divided q s j positive h = add-mul-div_left q j positive ∙ (ap (λ z. z + j) (div-eq_of_lt h) ∙ omega arith)

pub below_half : (q s t j : ℕ) → q < s → j < t → s * t ≡ 32 → q + s * j < 32
below_half q s t j q_below j_below all =
    let more : s * (j + 1) ≤ s * t = mul-le-mul_left s (omega arith) in
    omega arith

pub stands-next : (k s t : ℕ) (x f g : ℕ → Cx) → Divides k s t → IsJoined k f g → Stands k (2 * s) x f → Stands (suc k) s x g
unfolding up_at
stands-next k s t x f g d stage before = record {
  each = λ q p q_below p_below. elim (cases_lt p t) [
    | inl first ↦
        let e = joined-first k (up_at k (λ m. x (q + s * (2 * m)))) (up_at k (λ m. x (q + s * (2 * m + 1)))) p (rw d.sums first) in
        stage-first q p q_below first ∙ sym e
    | inr past ↦
        let j = p - t in
        let small : p - t < t = omega (arith, d.twice, d.sums) in
        let here : p ≡ 2 ^ k + (p - t) = omega (arith, d.sums) in
        let place : q + s * p ≡ q + s * (p - t) + 32 = omega (arith, d.all, parts p past) in
        let e = joined-last k (up_at k (λ m. x (q + s * (2 * m)))) (up_at k (λ m. x (q + s * (2 * m + 1)))) (p - t) (rw d.sums small) in
        ap g place ∙ (stage-last q (p - t) q_below small ∙ (sym e ∙ ap (joined k (up_at k (λ m. x (q + s * (2 * m)))) (up_at k (λ m. x (q + s * (2 * m + 1))))) (sym here)))
  ];
}
  where
    parts : (p : ℕ) → t ≤ p → s * p ≡ s * (p - t) + s * t
    parts p h = let e : p ≡ (p - t) + t = omega arith in ap (λ z. s * z) e ∙ omega arith

    twice_above : (q : ℕ) → q < s → q < 2 * s
    twice_above q h = omega arith

    twice_more : (q : ℕ) → q < s → q + s < 2 * s
    twice_more q h = omega arith

    even-is : (q j : ℕ) → q < s → j < t → f (first_read k (q + s * j)) ≡ up_at k (λ m. x (q + s * (2 * m))) j
    even-is q j q_below j_below =
        let at : first_read k (q + s * j) ≡ q + 2 * s * j = rw (d.is_apart, divided q s j d.positive q_below) (omega arith) in
        let same : (λ m. x (q + 2 * s * m)) ≡ (λ m. x (q + s * (2 * m))) = same_functions _ _ (λ m. let e : q + 2 * s * m ≡ q + s * (2 * m) = omega arith in ap x e) in
        ap f at ∙ (before.each q j (twice_above q q_below) (rw d.sums j_below) ∙ ap (λ y. up_at k y j) same)

    odd-is : (q j : ℕ) → q < s → j < t → f (first_read k (q + s * j) + apart k) ≡ up_at k (λ m. x (q + s * (2 * m + 1))) j
    odd-is q j q_below j_below =
        let at : first_read k (q + s * j) + apart k ≡ q + s + 2 * s * j = rw (d.is_apart, divided q s j d.positive q_below) (omega arith) in
        let same : (λ m. x (q + s + 2 * s * m)) ≡ (λ m. x (q + s * (2 * m + 1))) = same_functions _ _ (λ m. let e : q + s + 2 * s * m ≡ q + s * (2 * m + 1) = omega arith in ap x e) in
        ap f at ∙ (before.each (q + s) j (twice_more q q_below) (rw d.sums j_below) ∙ ap (λ y. up_at k y j) same)

    turn-is : (q j : ℕ) → q < s → (q + s * j) / apart k ≡ j
    turn-is q j q_below = rw d.is_apart (divided q s j d.positive q_below)

    stage-first : (q j : ℕ) → q < s → j < t → g (q + s * j) ≡ plus (up_at k (λ m. x (q + s * (2 * m))) j) (scaled_product (stage_turn k j) (up_at k (λ m. x (q + s * (2 * m + 1))) j))
    stage-first q j q_below j_below =
        rw (stage.sums (q + s * j) (below_half q s t j q_below j_below d.all), even-is q j q_below j_below, odd-is q j q_below j_below, turn-is q j q_below) refl

    stage-last : (q j : ℕ) → q < s → j < t → g (q + s * j + 32) ≡ minus (up_at k (λ m. x (q + s * (2 * m))) j) (scaled_product (stage_turn k j) (up_at k (λ m. x (q + s * (2 * m + 1))) j))
    stage-last q j q_below j_below =
        rw (stage.differences (q + s * j) (below_half q s t j q_below j_below d.all), even-is q j q_below j_below, odd-is q j q_below j_below, turn-is q j q_below) refl

pub stands-last : (x f : ℕ → Cx) → Stands 6 1 x f → (n : ℕ) → n < 64 → f n ≡ up_at 6 x n
stands-last x f h n below =
    let at : 0 + 1 * n ≡ n = omega arith in
    let same : (λ m. x (0 + 1 * m)) ≡ x = same_functions _ _ (λ m. let e : 0 + 1 * m ≡ m = omega arith in ap x e) in
    sym (ap f at) ∙ (h.each 0 n (omega arith) (omega arith) ∙ ap (λ y. up_at 6 y n) same)

-- the sizes of what stands
pub stands-size : (k s size : ℕ) (x f : ℕ → Cx) → All_of_size size x → Stands k s x f → (n : ℕ) → n % s + s * (n / s) ≡ n → n % s < s → n / s < 2 ^ k → IsOfSize (grown_by k size) (f n)
stands-size k s size x f sizes h n place q_below p_below =
    rw (sym (ap f place) ∙ h.each (n % s) (n / s) q_below p_below) (size-up_at k size (λ m. x (n % s + s * m)) (λ m. sizes (n % s + s * m)) (n / s))

-- ---- stage by stage

pub after_1 : (x f g : ℕ → Cx) → Stands 0 64 x f → IsJoined 0 f g → Stands 1 32 x g
after_1 x f g h stage = stands-next 0 32 1 x f g (record { is_apart = refl; sums = refl; twice = refl; all = refl; positive = omega arith }) stage h

pub after_2 : (x f g : ℕ → Cx) → Stands 1 32 x f → IsJoined 1 f g → Stands 2 16 x g
after_2 x f g h stage = stands-next 1 16 2 x f g (record { is_apart = refl; sums = refl; twice = refl; all = refl; positive = omega arith }) stage h

pub after_3 : (x f g : ℕ → Cx) → Stands 2 16 x f → IsJoined 2 f g → Stands 3 8 x g
after_3 x f g h stage = stands-next 2 8 4 x f g (record { is_apart = refl; sums = refl; twice = refl; all = refl; positive = omega arith }) stage h

pub after_4 : (x f g : ℕ → Cx) → Stands 3 8 x f → IsJoined 3 f g → Stands 4 4 x g
after_4 x f g h stage = stands-next 3 4 8 x f g (record { is_apart = refl; sums = refl; twice = refl; all = refl; positive = omega arith }) stage h

pub after_5 : (x f g : ℕ → Cx) → Stands 4 4 x f → IsJoined 4 f g → Stands 5 2 x g
after_5 x f g h stage = stands-next 4 2 16 x f g (record { is_apart = refl; sums = refl; twice = refl; all = refl; positive = omega arith }) stage h

pub after_6 : (x f g : ℕ → Cx) → Stands 5 2 x f → IsJoined 5 f g → Stands 6 1 x g
after_6 x f g h stage = stands-next 5 1 32 x f g (record { is_apart = refl; sums = refl; twice = refl; all = refl; positive = omega arith }) stage h

-- the sizes after each
record Splits (k s n : ℕ) : Type 0 where
  place : n % s + s * (n / s) ≡ n
  first : n % s < s
  second : n / s < 2 ^ k

rows_sized : (k s : ℕ) (xs : List Cx) (ys : List Row) → PairsOfSize (2 ^ 24) xs → Stands k s (entry xs) (place_in ys) → ((n : ℕ) → n < 64 → Splits k s n) → grown_by k (2 ^ 24) ≤ 2 ^ 30 - 2 ^ 12 → RowsOfSize (2 ^ 30 - 2 ^ 12) ys
rows_sized k s xs ys sizes h splits small = record {
  each = λ n lt.
      let split = splits n lt in
      wider (grown_by k (2 ^ 24)) (2 ^ 30 - 2 ^ 12) _ small (stands-size k s (2 ^ 24) (entry xs) (place_in ys) (everywhere_of_size (2 ^ 24) xs sizes) h n split.place split.first split.second);
}

pub sized_0 : (xs : List Cx) (ys : List Row) → PairsOfSize (2 ^ 24) xs → Stands 0 64 (entry xs) (place_in ys) → RowsOfSize (2 ^ 30 - 2 ^ 12) ys
sized_0 xs ys sizes h = rows_sized 0 64 xs ys sizes h (λ n lt. record { place = omega arith; first = omega arith; second = omega arith }) (omega arith)

pub sized_1 : (xs : List Cx) (ys : List Row) → PairsOfSize (2 ^ 24) xs → Stands 1 32 (entry xs) (place_in ys) → RowsOfSize (2 ^ 30 - 2 ^ 12) ys
sized_1 xs ys sizes h = rows_sized 1 32 xs ys sizes h (λ n lt. record { place = omega arith; first = omega arith; second = omega arith }) (omega arith)

pub sized_2 : (xs : List Cx) (ys : List Row) → PairsOfSize (2 ^ 24) xs → Stands 2 16 (entry xs) (place_in ys) → RowsOfSize (2 ^ 30 - 2 ^ 12) ys
sized_2 xs ys sizes h = rows_sized 2 16 xs ys sizes h (λ n lt. record { place = omega arith; first = omega arith; second = omega arith }) (omega arith)

pub sized_3 : (xs : List Cx) (ys : List Row) → PairsOfSize (2 ^ 24) xs → Stands 3 8 (entry xs) (place_in ys) → RowsOfSize (2 ^ 30 - 2 ^ 12) ys
sized_3 xs ys sizes h = rows_sized 3 8 xs ys sizes h (λ n lt. record { place = omega arith; first = omega arith; second = omega arith }) (omega arith)

pub sized_4 : (xs : List Cx) (ys : List Row) → PairsOfSize (2 ^ 24) xs → Stands 4 4 (entry xs) (place_in ys) → RowsOfSize (2 ^ 30 - 2 ^ 12) ys
sized_4 xs ys sizes h = rows_sized 4 4 xs ys sizes h (λ n lt. record { place = omega arith; first = omega arith; second = omega arith }) (omega arith)

pub sized_5 : (xs : List Cx) (ys : List Row) → PairsOfSize (2 ^ 24) xs → Stands 5 2 (entry xs) (place_in ys) → RowsOfSize (2 ^ 30 - 2 ^ 12) ys
sized_5 xs ys sizes h = rows_sized 5 2 xs ys sizes h (λ n lt. record { place = omega arith; first = omega arith; second = omega arith }) (omega arith)
