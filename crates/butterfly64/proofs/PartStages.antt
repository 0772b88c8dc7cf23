-- The six stages of `down` place by place: what stands where after each.
use Rattle.std.proofs.Common.{◌≡◌, inl, inr, ℕ, suc, ◌+◌, ◌-◌, ◌*◌, ◌/◌, ◌%◌, ◌^◌, ◌<◌, ◌≤◌, List, refl, ap, sym, ◌∙◌, arith}
use Rattle.std.proofs.lemmas.Bool.{cases_lt}
use Rattle.std.proofs.Math.Nat.{add-mul-mod_self_left, mod-eq_of_lt}
use Rattle.fixed_complex.specs.declared.Cx.{Cx}
use Rattle.fixed_complex.specs.Pairs.{conjugate, minus, plus, scaled_product}
use Rattle.fixed_complex.specs.PairLists.{PairsOfSize, entry}
use Rattle.fixed_complex.proofs.PairLists.{everywhere_of_size}
use Rattle.fixed_complex.proofs.PairSizes.{size-conjugate, size-minus, size-plus, size-scaled_product, wider}
use Rattle.fixed_complex.proofs.TurnLaws.{turn-size}
use Rattle.butterfly64.specs.declared.rows.Row.{Row}
use Rattle.butterfly64.specs.Budgets.{grown_size}
use Rattle.butterfly64.specs.Rows.{IsParted, RowsOfSize, apart, first_read, place_in}
use Rattle.butterfly64.specs.StagedSums.{down_at, half_sums, stage_turn, turned_differences}
use Rattle.butterfly64.proofs.Halves.{down_at-even, down_at-local, down_at-odd}
use Rattle.butterfly64.proofs.JoinStages.{Divides, below_half, divided}
use Rattle.butterfly64.proofs.RowStages.{reads_within}
use Rattle.butterfly64.proofs.StagedSizes.{grown_by}

-- after t stages there are 2^t lists of length s, one behind the other; sum q + 2^t * m of all is sum m of list q
pub record Lies (t k s : ℕ) (x f : ℕ → Cx) : Type 0 where
  pub each : (q m : ℕ) → q < 2 ^ t → m < s → down_at 6 x (q + 2 ^ t * m) ≡ down_at k (λ p. f (s * q + p)) m

pub lies-first : (x f : ℕ → Cx) → ((n : ℕ) → n < 64 → f n ≡ x n) → Lies 0 6 64 x f
lies-first x f h = record {
  each = λ q m q_below m_below.
      let none : q ≡ 0 = omega arith in
      let at : q + 2 ^ 0 * m ≡ m = omega arith in
      ap (down_at 6 x) at ∙ down_at-local 6 x (λ p. f (64 * q + p)) (λ p p_below. let here : 64 * q + p ≡ p = omega arith in sym (ap f here ∙ h p p_below)) m;
}

-- the numbers of a stage, whose lists are halved
pub lies-next : (t k s c : ℕ) (x f g : ℕ → Cx) → Divides t s c → 2 ^ k ≡ s → 5 - t ≡ k → IsParted t f g → Lies t (suc k) (2 * s) x f → Lies (suc t) k s x g
lies-next t k s c x f g d half level stage before = record {
  each = λ q m q_below m_below. elim (cases_lt q c) [
    | inl first ↦
        let at : q + 2 ^ suc t * m ≡ q + 2 ^ t * (2 * m) = rw (d.twice, d.sums) (omega arith) in
        ap (down_at 6 x) at ∙ (before.each q (2 * m) (rw d.sums first) (omega arith)
        ∙ (down_at-even k (λ p. f (2 * s * q + p)) m
        ∙ down_at-local k (half_sums k (λ p. f (2 * s * q + p))) (λ p. g (s * q + p)) (λ p lt. sym (sum-is q p first (rw half at lt))) m))
    | inr past ↦
        let r = q - c in
        let small : q - c < c = omega (arith, d.twice, d.sums) in
        let at : q + 2 ^ suc t * m ≡ (q - c) + 2 ^ t * (2 * m + 1) = rw (d.twice, d.sums) (omega (arith, past)) in
        ap (down_at 6 x) at ∙ (before.each (q - c) (2 * m + 1) (rw d.sums small) (omega arith)
        ∙ (down_at-odd k (λ p. f (2 * s * (q - c) + p)) m
        ∙ down_at-local k (turned_differences k (λ p. f (2 * s * (q - c) + p))) (λ p. g (s * q + p)) (λ p lt. sym (ap g (beyond q p past) ∙ difference-is (q - c) p small (rw half at lt))) m))
  ];
}
  where
    beyond : (q p : ℕ) → c ≤ q → s * q + p ≡ s * (q - c) + p + 32
    beyond q p h = let e : q ≡ (q - c) + c = omega arith in let split : s * q ≡ s * (q - c) + s * c = ap (λ z. s * z) e ∙ omega arith in omega (arith, d.all)

    turn_place : (q p : ℕ) → s * q + p ≡ p + s * q
    turn_place q p = omega arith

    place-at : (q p : ℕ) → p < s → first_read t (s * q + p) ≡ 2 * s * q + p
    place-at q p lt = rw (d.is_apart, turn_place q p, divided p s q d.positive lt) (omega arith)

    below : (q p : ℕ) → q < c → p < s → s * q + p < 32
    below q p q_below p_below = rw (turn_place q p) (below_half p s c q p_below q_below d.all)

    index-at : (q p : ℕ) → p < s → (s * q + p) % apart t ≡ p
    index-at q p lt = rw (d.is_apart, turn_place q p) (add-mul-mod_self_left p s q ∙ mod-eq_of_lt lt)

    second-at : (q p : ℕ) → p < s → first_read t (s * q + p) + apart t ≡ 2 * s * q + (p + 2 ^ k)
    second-at q p lt = rw (place-at q p lt, d.is_apart, half) (omega arith)

    sum-is : (q p : ℕ) → q < c → p < s → g (s * q + p) ≡ half_sums k (λ p. f (2 * s * q + p)) p
    sum-is q p q_below p_below =
        stage.sums (s * q + p) (below q p q_below p_below)
        ∙ (ap (λ n. plus (f n) (f (first_read t (s * q + p) + apart t))) (place-at q p p_below)
        ∙ ap (λ n. plus (f (2 * s * q + p)) (f n)) (second-at q p p_below))

    difference-is : (q p : ℕ) → q < c → p < s → g (s * q + p + 32) ≡ turned_differences k (λ p. f (2 * s * q + p)) p
    difference-is q p q_below p_below =
        stage.differences (s * q + p) (below q p q_below p_below)
        ∙ (ap (λ n. scaled_product (conjugate (stage_turn (5 - t) n)) (minus (f (first_read t (s * q + p))) (f (first_read t (s * q + p) + apart t)))) (index-at q p p_below)
        ∙ (ap (λ n. scaled_product (conjugate (stage_turn n p)) (minus (f (first_read t (s * q + p))) (f (first_read t (s * q + p) + apart t)))) level
        ∙ (ap (λ n. scaled_product (conjugate (stage_turn k p)) (minus (f n) (f (first_read t (s * q + p) + apart t)))) (place-at q p p_below)
        ∙ ap (λ n. scaled_product (conjugate (stage_turn k p)) (minus (f (2 * s * q + p)) (f n))) (second-at q p p_below))))

pub lies-last : (x f : ℕ → Cx) → Lies 6 0 1 x f → (n : ℕ) → n < 64 → f n ≡ down_at 6 x n
unfolding down_at
lies-last x f h n below =
    let at : n + 2 ^ 6 * 0 ≡ n = omega arith in
    let place : 1 * n + 0 ≡ n = omega arith in
    sym (sym (ap (down_at 6 x) at) ∙ (h.each n 0 below (omega arith) ∙ ap f place))

-- ---- stage by stage

pub parted_1 : (x f g : ℕ → Cx) → Lies 0 6 64 x f → IsParted 0 f g → Lies 1 5 32 x g
parted_1 x f g h stage = lies-next 0 5 32 1 x f g (record { is_apart = refl; sums = refl; twice = refl; all = refl; positive = omega arith }) refl refl stage h

pub parted_2 : (x f g : ℕ → Cx) → Lies 1 5 32 x f → IsParted 1 f g → Lies 2 4 16 x g
parted_2 x f g h stage = lies-next 1 4 16 2 x f g (record { is_apart = refl; sums = refl; twice = refl; all = refl; positive = omega arith }) refl refl stage h

pub parted_3 : (x f g : ℕ → Cx) → Lies 2 4 16 x f → IsParted 2 f g → Lies 3 3 8 x g
parted_3 x f g h stage = lies-next 2 3 8 4 x f g (record { is_apart = refl; sums = refl; twice = refl; all = refl; positive = omega arith }) refl refl stage h

pub parted_4 : (x f g : ℕ → Cx) → Lies 3 3 8 x f → IsParted 3 f g → Lies 4 2 4 x g
parted_4 x f g h stage = lies-next 3 2 4 8 x f g (record { is_apart = refl; sums = refl; twice = refl; all = refl; positive = omega arith }) refl refl stage h

pub parted_5 : (x f g : ℕ → Cx) → Lies 4 2 4 x f → IsParted 4 f g → Lies 5 1 2 x g
parted_5 x f g h stage = lies-next 4 1 2 16 x f g (record { is_apart = refl; sums = refl; twice = refl; all = refl; positive = omega arith }) refl refl stage h

pub parted_6 : (x f g : ℕ → Cx) → Lies 5 1 2 x f → IsParted 5 f g → Lies 6 0 1 x g
parted_6 x f g h stage = lies-next 5 0 1 32 x f g (record { is_apart = refl; sums = refl; twice = refl; all = refl; positive = omega arith }) refl refl stage h

-- the sizes after a stage
pub sized-next : (t size : ℕ) (xs ys : List Row) → t < 6 → RowsOfSize size xs → IsParted t (place_in xs) (place_in ys) → RowsOfSize (grown_size size) ys
sized-next t size xs ys t_below sizes stage = record {
  each = λ n lt. elim (cases_lt n 32) [
    | inl first ↦
        let reads = reads_within t t_below n first in
        let low = sizes.each (first_read t n) (omega (arith, reads)) in
        let high = sizes.each (first_read t n + apart t) reads in
        let narrow : size + size ≤ grown_size size = omega arith in
        rw (stage.sums n first) (wider (size + size) (grown_size size) _ narrow (size-plus size size _ _ low high))
    | inr past ↦
        let here : n - 32 < 32 = omega arith in
        let place : n - 32 + 32 ≡ n = omega arith in
        let reads = reads_within t t_below (n - 32) here in
        let low = sizes.each (first_read t (n - 32)) (omega (arith, reads)) in
        let high = sizes.each (first_read t (n - 32) + apart t) reads in
        let narrow : (size + size) + (size + size) / 1048576 + 2 ≤ grown_size size = omega arith in
        let small = wider _ (grown_size size) _ narrow (size-scaled_product (size + size) (conjugate (stage_turn (5 - t) ((n - 32) % apart t))) _ (size-conjugate _ _ (turn-size (2 ^ (5 - (5 - t)) * ((n - 32) % apart t)))) (size-minus size size _ _ low high)) in
        let at_place = stage.differences (n - 32) here in
        let e : place_in ys n ≡ scaled_product (conjugate (stage_turn (5 - t) ((n - 32) % apart t))) (minus (place_in xs (first_read t (n - 32))) (place_in xs (first_read t (n - 32) + apart t))) = sym (ap (place_in ys) place) ∙ at_place in
        rw e small
  ];
}

-- the pairs that the first stage reads
pub sized-first : (xs : List Cx) (ys : List Row) → PairsOfSize (2 ^ 24) xs → ((n : ℕ) → n < 64 → place_in ys n ≡ entry xs n) → RowsOfSize (grown_by 0 (2 ^ 24)) ys
sized-first xs ys sizes is = record { each = λ n lt. rw (is n lt) (everywhere_of_size (2 ^ 24) xs sizes n) }
