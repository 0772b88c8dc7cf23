-- A stage over rows: its turns, the places that it reads, and what its loop has done.
use Rattle.std.proofs.Common.{◌≡◌, ◌≢◌, inl, inr, ℕ, ◌+◌, ◌-◌, ◌*◌, ◌/◌, ◌%◌, ◌^◌, ◌<◌, List, length, set, true, ltb, refl, ap, ◌∙◌, arith, get_or-set_other, get_or-set_same, length-set}
use Rattle.std.proofs.lemmas.Bool.{cases_lt, ltb-true, agree_below_at, agree_below}
use Rattle.std.specs.Prelude.{ℤ, pos, neg_ℤ, ◌+ℤ◌, ◌-ℤ◌, ◌*ℤ◌}
use Rattle.std.proofs.lemmas.Int.{ints}
use Rattle.integer_laws.proofs.FloorDivision.{floor_div-add_multiple}
use Rattle.fixed_complex.specs.declared.Cx.{Cx}
use Rattle.fixed_complex.specs.Pairs.{conjugate, minus, plus, scaled_product, times}
use Rattle.fixed_complex.specs.Rounding.{half_up}
use Rattle.fixed_complex.specs.Turns.{turn_at}
use Rattle.fixed_complex.proofs.ByTable.{same_pairs, are_same}
use Rattle.fixed_complex.proofs.TurnLaws.{turn-size, turn-within}
use Rattle.butterfly64.specs.declared.rows.Row.{Row}
use Rattle.butterfly64.specs.declared.row_turns.TheConstants.{PART_TURNS, ROW_TURNS}
use Rattle.butterfly64.specs.Rows.{RowOfSize, RowOfTurns, RowsOfSize, apart, first_read, place_in, row_in, row_lane}
use Rattle.butterfly64.specs.StagedSums.{stage_turn}

-- the table of turns
turns_at : (k : ℕ) → k < 6 → (n : ℕ) → n < 32 → row_lane (row_in ROW_TURNS (4 * k + n / 8)) (n % 8) ≡ stage_turn k (n / apart k)
unfolding turn_at
turns_at k k_below n n_below =
    are_same _ _ (agree_below_at (λ n. same_pairs (row_lane (row_in ROW_TURNS (4 * k + n / 8)) (n % 8)) (stage_turn k (n / apart k))) (λ _. true) 32 n (agree_below_at (λ k. agree_below (λ n. same_pairs (row_lane (row_in ROW_TURNS (4 * k + n / 8)) (n % 8)) (stage_turn k (n / apart k))) (λ _. true) 32) (λ _. true) 6 k refl k_below) n_below)

pub turn_in_row : (k p l : ℕ) → k < 6 → p < 4 → l < 8 → row_lane (row_in ROW_TURNS (4 * k + p)) l ≡ stage_turn k ((8 * p + l) / apart k)
turn_in_row k p l k_below p_below l_below =
    let row : (8 * p + l) / 8 ≡ p = omega arith in
    let lane : (8 * p + l) % 8 ≡ l = omega arith in
    let here = turns_at k k_below (8 * p + l) (omega arith) in
    rw (row, lane) at here

pub row_of_turns : (k p : ℕ) → k < 6 → p < 4 → RowOfTurns (row_in ROW_TURNS (4 * k + p))
row_of_turns k p k_below p_below = record {
  within = λ l lt. rw (turn_in_row k p l k_below p_below lt) (turn-within (2 ^ (5 - k) * ((8 * p + l) / apart k)));
  size = λ l lt. rw (turn_in_row k p l k_below p_below lt) (turn-size (2 ^ (5 - k) * ((8 * p + l) / apart k)));
}

-- the turn by nothing
unturned_part : (a whole : ℤ) → whole ≡ a *ℤ pos 1048576 → half_up 20 whole ≡ a
unturned_part a whole is =
    let sum : whole +ℤ pos 524288 ≡ pos 524288 +ℤ a *ℤ pos 1048576 = omega (arith, ints) in
    rw sum (floor_div-add_multiple (pos 524288) a 1048576 (omega arith) ∙ omega (arith, ints))

pub turned_by_nothing : (z : Cx) → scaled_product (turn_at 0) z ≡ z
unfolding scaled_product times turn_at
turned_by_nothing z = λ i. record { re = re i; im = im i }
  where
    re : half_up 20 (pos 1048576 *ℤ z.re -ℤ pos 0 *ℤ z.im) ≡ z.re
    re = unturned_part z.re (pos 1048576 *ℤ z.re -ℤ pos 0 *ℤ z.im) (omega (arith, ints))

    im : half_up 20 (pos 1048576 *ℤ z.im +ℤ pos 0 *ℤ z.re) ≡ z.im
    im = unturned_part z.im (pos 1048576 *ℤ z.im +ℤ pos 0 *ℤ z.re) (omega (arith, ints))

-- and by a quarter
pub turned_by_a_quarter : (z : Cx) → let turned : Cx = record { re = neg_ℤ z.im; im = z.re } in scaled_product (turn_at 16) z ≡ turned
unfolding scaled_product times turn_at
turned_by_a_quarter z = λ i. record { re = re i; im = im i }
  where
    re : half_up 20 (pos 0 *ℤ z.re -ℤ pos 1048576 *ℤ z.im) ≡ neg_ℤ z.im
    re = unturned_part (neg_ℤ z.im) (pos 0 *ℤ z.re -ℤ pos 1048576 *ℤ z.im) (omega (arith, ints))

    im : half_up 20 (pos 0 *ℤ z.im +ℤ pos 1048576 *ℤ z.re) ≡ z.re
    im = unturned_part z.re (pos 0 *ℤ z.im +ℤ pos 1048576 *ℤ z.re) (omega (arith, ints))

-- a stage reads places below 64
pub reads_within : (k : ℕ) → k < 6 → (n : ℕ) → n < 32 → first_read k n + apart k < 64
reads_within k k_below n n_below =
    ltb-true _ _ (agree_below_at (λ n. ltb (first_read k n + apart k) 64) (λ _. true) 32 n (agree_below_at (λ k. agree_below (λ n. ltb (first_read k n + apart k) 64) (λ _. true) 32) (λ _. true) 6 k refl k_below) n_below)

pub first_of_size : (bound k p : ℕ) (xs : List Row) (row : Row) → k < 6 → p < 4 → RowsOfSize bound xs → ((l : ℕ) → l < 8 → row_lane row l ≡ place_in xs (first_read k (8 * p + l))) → RowOfSize bound row
first_of_size bound k p xs row k_below p_below sizes is = record { each = λ l lt. rw (is l lt) (sizes.each (first_read k (8 * p + l)) (omega (arith, reads_within k k_below (8 * p + l) (omega arith)))) }

pub second_of_size : (bound k p : ℕ) (xs : List Row) (row : Row) → k < 6 → p < 4 → RowsOfSize bound xs → ((l : ℕ) → l < 8 → row_lane row l ≡ place_in xs (first_read k (8 * p + l) + apart k)) → RowOfSize bound row
second_of_size bound k p xs row k_below p_below sizes is = record { each = λ l lt. rw (is l lt) (sizes.each (first_read k (8 * p + l) + apart k) (reads_within k k_below (8 * p + l) (omega arith))) }

-- what a stage gives for a place and for the one 32 further
abbrev pub turned_at : ℕ → (ℕ → Cx) → ℕ → Cx
turned_at k x n = scaled_product (stage_turn k (n / apart k)) (x (first_read k n + apart k))

abbrev pub joined_sum : ℕ → (ℕ → Cx) → ℕ → Cx
joined_sum k x n = plus (x (first_read k n)) (turned_at k x n)

abbrev pub joined_difference : ℕ → (ℕ → Cx) → ℕ → Cx
joined_difference k x n = minus (x (first_read k n)) (turned_at k x n)

pub sum_of : (k n : ℕ) (x : ℕ → Cx) (first second turn sum : Cx) → first ≡ x (first_read k n) → second ≡ x (first_read k n + apart k) → turn ≡ stage_turn k (n / apart k) → sum ≡ plus first (scaled_product turn second) → sum ≡ joined_sum k x n
sum_of k n x first second turn sum first_is second_is turn_is sum_is = rw (sum_is, first_is, second_is, turn_is) refl

pub difference_of : (k n : ℕ) (x : ℕ → Cx) (first second turn difference : Cx) → first ≡ x (first_read k n) → second ≡ x (first_read k n + apart k) → turn ≡ stage_turn k (n / apart k) → difference ≡ minus first (scaled_product turn second) → difference ≡ joined_difference k x n
difference_of k n x first second turn difference first_is second_is turn_is difference_is = rw (difference_is, first_is, second_is, turn_is) refl

-- what the loop of a stage has done: the rows of the one half hold one function of the place, the others another
pub record AreWritten (p : ℕ) (f g : ℕ → Cx) (y : List Row) : Type 0 where
  pub long : length y ≡ 8
  pub first : (r l : ℕ) → r < p → l < 8 → row_lane (row_in y r) l ≡ f (8 * r + l)
  pub second : (r l : ℕ) → r < p → l < 8 → row_lane (row_in y (r + 4)) l ≡ g (8 * r + l)

pub none_written : (f g : ℕ → Cx) (y : List Row) → length y ≡ 8 → AreWritten 0 f g y
none_written f g y long = record { long = long; first = λ r l below _. absurd (omega arith); second = λ r l below _. absurd (omega arith) }

pub one_written : (p next : ℕ) (f g : ℕ → Cx) (y : List Row) (s d : Row) → next ≡ p + 1 → p < 4 → ((l : ℕ) → l < 8 → row_lane s l ≡ f (8 * p + l)) → ((l : ℕ) → l < 8 → row_lane d l ≡ g (8 * p + l)) → AreWritten p f g y → AreWritten next f g (set (set y p s) (p + 4) d)
one_written p next f g y s d e p_below first_is second_is h = record {
  long = rw (length-set, length-set) h.long;
  first = λ r l below lt. elim (cases_lt r p) [
    | inl here ↦ old r l (omega arith) (omega arith) ∙ h.first r l here lt
    | inr past ↦ let is : r ≡ p = omega arith in rw is (first_row l ∙ first_is l lt)
  ];
  second = λ r l below lt. elim (cases_lt r p) [
    | inl here ↦ old (r + 4) l (omega arith) (omega arith) ∙ h.second r l here lt
    | inr past ↦ let is : r ≡ p = omega arith in rw is (second_row l ∙ second_is l lt)
  ];
}
  where
    old : (r l : ℕ) → r ≢ p → r ≢ p + 4 → row_lane (row_in (set (set y p s) (p + 4) d) r) l ≡ row_lane (row_in y r) l
    old r l a b = ap (λ z. row_lane z l) (get_or-set_other (set y p s) (p + 4) r d _ b ∙ get_or-set_other y p r s _ a)

    first_row : (l : ℕ) → row_lane (row_in (set (set y p s) (p + 4) d) p) l ≡ row_lane s l
    first_row l = let apart_from : p ≢ p + 4 = omega arith in ap (λ z. row_lane z l) (get_or-set_other (set y p s) (p + 4) p d _ apart_from ∙ get_or-set_same y p s _ (omega (arith, h.long)))

    second_row : (l : ℕ) → row_lane (row_in (set (set y p s) (p + 4) d) (p + 4)) l ≡ row_lane d l
    second_row l = ap (λ z. row_lane z l) (get_or-set_same (set y p s) (p + 4) d _ (rw length-set (omega (arith, h.long))))

pub first_written : (p : ℕ) (f g : ℕ → Cx) (y : List Row) → p ≡ 4 → AreWritten p f g y → (n : ℕ) → n < 32 → place_in y n ≡ f n
first_written p f g y e h n lt =
    let here = h.first (n / 8) (n % 8) (omega arith) (omega arith) in
    let place : 8 * (n / 8) + n % 8 ≡ n = omega arith in
    rw place at here

pub second_written : (p : ℕ) (f g : ℕ → Cx) (y : List Row) → p ≡ 4 → AreWritten p f g y → (n : ℕ) → n < 32 → place_in y (n + 32) ≡ g n
second_written p f g y e h n lt =
    let row : (n + 32) / 8 ≡ n / 8 + 4 = omega arith in
    let lane : (n + 32) % 8 ≡ n % 8 = omega arith in
    let here = h.second (n / 8) (n % 8) (omega arith) (omega arith) in
    let place : 8 * (n / 8) + n % 8 ≡ n = omega arith in
    rw (row, lane) (rw place at here)

-- ---- the same of `down`
part_turns_at : (t : ℕ) → t < 6 → (n : ℕ) → n < 32 → row_lane (row_in PART_TURNS (4 * t + n / 8)) (n % 8) ≡ stage_turn (5 - t) (n % apart t)
unfolding turn_at
part_turns_at t t_below n n_below =
    are_same _ _ (agree_below_at (λ n. same_pairs (row_lane (row_in PART_TURNS (4 * t + n / 8)) (n % 8)) (stage_turn (5 - t) (n % apart t))) (λ _. true) 32 n (agree_below_at (λ t. agree_below (λ n. same_pairs (row_lane (row_in PART_TURNS (4 * t + n / 8)) (n % 8)) (stage_turn (5 - t) (n % apart t))) (λ _. true) 32) (λ _. true) 6 t refl t_below) n_below)

pub part_turn_in_row : (t p l : ℕ) → t < 6 → p < 4 → l < 8 → row_lane (row_in PART_TURNS (4 * t + p)) l ≡ stage_turn (5 - t) ((8 * p + l) % apart t)
part_turn_in_row t p l t_below p_below l_below =
    let row : (8 * p + l) / 8 ≡ p = omega arith in
    let lane : (8 * p + l) % 8 ≡ l = omega arith in
    let here = part_turns_at t t_below (8 * p + l) (omega arith) in
    rw (row, lane) at here

pub row_of_part_turns : (t p : ℕ) → t < 6 → p < 4 → RowOfTurns (row_in PART_TURNS (4 * t + p))
row_of_part_turns t p t_below p_below = record {
  within = λ l lt. rw (part_turn_in_row t p l t_below p_below lt) (turn-within (2 ^ (5 - (5 - t)) * ((8 * p + l) % apart t)));
  size = λ l lt. rw (part_turn_in_row t p l t_below p_below lt) (turn-size (2 ^ (5 - (5 - t)) * ((8 * p + l) % apart t)));
}

-- the turns back
pub unturned : (z : Cx) → scaled_product (conjugate (turn_at 0)) z ≡ z
unfolding scaled_product times turn_at
unturned z = λ i. record { re = re i; im = im i }
  where
    re : half_up 20 (pos 1048576 *ℤ z.re -ℤ pos 0 *ℤ z.im) ≡ z.re
    re = unturned_part z.re (pos 1048576 *ℤ z.re -ℤ pos 0 *ℤ z.im) (omega (arith, ints))

    im : half_up 20 (pos 1048576 *ℤ z.im +ℤ pos 0 *ℤ z.re) ≡ z.im
    im = unturned_part z.im (pos 1048576 *ℤ z.im +ℤ pos 0 *ℤ z.re) (omega (arith, ints))

pub quarter_back : (z : Cx) → let back : Cx = record { re = z.im; im = neg_ℤ z.re } in scaled_product (conjugate (turn_at 16)) z ≡ back
unfolding scaled_product times turn_at
quarter_back z = λ i. record { re = re i; im = im i }
  where
    re : half_up 20 (pos 0 *ℤ z.re -ℤ neg_ℤ (pos 1048576) *ℤ z.im) ≡ z.im
    re = unturned_part z.im (pos 0 *ℤ z.re -ℤ neg_ℤ (pos 1048576) *ℤ z.im) (omega (arith, ints))

    im : half_up 20 (pos 0 *ℤ z.im +ℤ neg_ℤ (pos 1048576) *ℤ z.re) ≡ neg_ℤ z.re
    im = unturned_part (neg_ℤ z.re) (pos 0 *ℤ z.im +ℤ neg_ℤ (pos 1048576) *ℤ z.re) (omega (arith, ints))

-- what a stage gives for a place and for the one 32 further
abbrev pub sum_at : ℕ → (ℕ → Cx) → ℕ → Cx
sum_at t x n = plus (x (first_read t n)) (x (first_read t n + apart t))

abbrev pub turned_difference_at : ℕ → (ℕ → Cx) → ℕ → Cx
turned_difference_at t x n = scaled_product (conjugate (stage_turn (5 - t) (n % apart t))) (minus (x (first_read t n)) (x (first_read t n + apart t)))

pub parted_sum : (t n : ℕ) (x : ℕ → Cx) (first second sum : Cx) → first ≡ x (first_read t n) → second ≡ x (first_read t n + apart t) → sum ≡ plus first second → sum ≡ sum_at t x n
parted_sum t n x first second sum first_is second_is is = rw (is, first_is, second_is) refl

pub parted_difference : (t n : ℕ) (x : ℕ → Cx) (first second turn difference : Cx) → first ≡ x (first_read t n) → second ≡ x (first_read t n + apart t) → turn ≡ stage_turn (5 - t) (n % apart t) → difference ≡ scaled_product (conjugate turn) (minus first second) → difference ≡ turned_difference_at t x n
parted_difference t n x first second turn difference first_is second_is turn_is is =
    is ∙ (ap (λ (z : Cx). scaled_product (conjugate z) (minus first second)) turn_is
    ∙ (ap (λ (z : Cx). scaled_product (conjugate (stage_turn (5 - t) (n % apart t))) (minus z second)) first_is
    ∙ ap (λ (z : Cx). scaled_product (conjugate (stage_turn (5 - t) (n % apart t))) (minus (x (first_read t n)) z)) second_is))
