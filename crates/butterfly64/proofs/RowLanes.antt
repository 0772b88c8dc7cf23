-- Words in lanes: widened, narrowed, added, and turned.
use Rattle.std.proofs.Common.{◌≡◌, inl, inr, true, false, ltb, ℕ, zero, suc, ◌+◌, ◌-◌, ◌*◌, ◌%◌, ◌^◌, ◌<◌, ◌≤◌, List, [], ◌∷◌, ◌++◌, map, length, get_or, w32, w64, to_z, of_z, refl, ap, ◌∙◌, arith}
use Rattle.std.specs.Prelude.{ℤ, pos, ◌+ℤ◌, ◌-ℤ◌, unsigned_abs, FitsSigned}
use Rattle.std.specs.Simd.Lanes.{zip2, Each1, Each2}
use Rattle.std.proofs.lemmas.Int.{ints, to_z-of_z}
use Rattle.std.proofs.lemmas.Bool.{cases_lt, lt-ltb}
use Rattle.std.proofs.lemmas.List.{get_or_append_left, get_or-append_right}
use Rattle.std.proofs.lemmas.Simd.{get_or-zip2}
use borrow.Rule.Simd.Lanes.{act1, act2, Asks1, Asks2}
use borrow.Table.Row.{s_int}
use mir.Syntax.{add, sub, cast, signed}
use Rattle.fixed_complex.specs.Numbers.{NumbersWithin, number_at}
use Rattle.fixed_complex.specs.declared.Cx.{Cx}
use Rattle.fixed_complex.specs.Pairs.{IsOfSize, IsWithin, conjugate, minus, plus, scaled_product}
use Rattle.fixed_complex.proofs.Numbers.{within_eight}
use Rattle.fixed_complex.proofs.PairSizes.{size-conjugate, size-minus, size-scaled_product, wider, within-size}
use Rattle.integer_laws.proofs.FewPlaces.{at_eight}
use Rattle.butterfly64.specs.declared.lanes.Eight.{Eight}
use Rattle.butterfly64.specs.declared.rows.Row.{Row}
use Rattle.butterfly64.specs.Lanes.{lane}
use Rattle.butterfly64.specs.Rows.{RowOfSize, RowOfTurns, place_of_two, row_lane}

-- what a lane of 32 bits holds
fits : (z : ℤ) → unsigned_abs z ≤ 2 ^ 31 - 1 → FitsSigned w32 z
fits z h = omega (arith, ints)

pub widened-is : (xs : List ℤ) → NumbersWithin (2 ^ 31 - 1) xs → map (to_z w64) (map (act1 (cast signed signed w64) (s_int w32) (s_int w64)) (map (of_z w32) xs)) ≡ xs
widened-is [] h = refl
widened-is (x ∷ xs) h =
    let small = h 0 in
    let here : to_z w64 (of_z w64 (to_z w32 (of_z w32 x))) ≡ x = omega (arith, ints) in
    let rest = widened-is xs (λ n. h (suc n)) in
    λ i. here i ∷ rest i

pub narrowed-fit : (xs : List ℤ) → NumbersWithin (2 ^ 31 - 1) xs → Each1 (Asks1 (cast signed signed w32) (s_int w64)) (map (of_z w64) xs)
narrowed-fit [] h = tt
narrowed-fit (x ∷ xs) h =
    let small = h 0 in
    let here : FitsSigned w32 (to_z w64 (of_z w64 x)) = omega (arith, ints) in
    (here, narrowed-fit xs (λ n. h (suc n)))

pub narrowed-is : (xs : List ℤ) → NumbersWithin (2 ^ 31 - 1) xs → map (to_z w32) (map (act1 (cast signed signed w32) (s_int w64) (s_int w32)) (map (of_z w64) xs)) ≡ xs
narrowed-is [] h = refl
narrowed-is (x ∷ xs) h =
    let small = h 0 in
    let here : to_z w32 (of_z w32 (to_z w64 (of_z w64 x))) ≡ x = omega (arith, ints) in
    let rest = narrowed-is xs (λ n. h (suc n)) in
    λ i. here i ∷ rest i

-- sums and differences
abbrev bits : List ℤ → List ℕ
bits = map (of_z w32)

pub sums_fit : (x y : List ℤ) → NumbersWithin (2 ^ 30 - 1) x → NumbersWithin (2 ^ 30 - 1) y → Each2 (Asks2 (add signed) (s_int w32) (s_int w32)) (bits x) (bits y)
sums_fit [] y h k = tt
sums_fit (a ∷ x) [] h k = tt
sums_fit (a ∷ x) (b ∷ y) h k =
    let first = h 0 in
    let second = k 0 in
    let here : FitsSigned w32 (to_z w32 (of_z w32 a) +ℤ to_z w32 (of_z w32 b)) = omega (arith, ints) in
    (here, sums_fit x y (λ n. h (suc n)) (λ n. k (suc n)))

pub sums_are : (x y : List ℤ) → NumbersWithin (2 ^ 30 - 1) x → NumbersWithin (2 ^ 30 - 1) y → map (to_z w32) (zip2 (act2 (add signed) (s_int w32) (s_int w32) (s_int w32)) (bits x) (bits y)) ≡ zip2 ◌+ℤ◌ x y
sums_are [] y h k = refl
sums_are (a ∷ x) [] h k = refl
sums_are (a ∷ x) (b ∷ y) h k =
    let first = h 0 in
    let second = k 0 in
    let here : to_z w32 (of_z w32 (to_z w32 (of_z w32 a) +ℤ to_z w32 (of_z w32 b))) ≡ a +ℤ b = omega (arith, ints) in
    let rest = sums_are x y (λ n. h (suc n)) (λ n. k (suc n)) in
    λ i. here i ∷ rest i

pub differences_fit : (x y : List ℤ) → NumbersWithin (2 ^ 30 - 1) x → NumbersWithin (2 ^ 30 - 1) y → Each2 (Asks2 (sub signed) (s_int w32) (s_int w32)) (bits x) (bits y)
differences_fit [] y h k = tt
differences_fit (a ∷ x) [] h k = tt
differences_fit (a ∷ x) (b ∷ y) h k =
    let first = h 0 in
    let second = k 0 in
    let here : FitsSigned w32 (to_z w32 (of_z w32 a) -ℤ to_z w32 (of_z w32 b)) = omega (arith, ints) in
    (here, differences_fit x y (λ n. h (suc n)) (λ n. k (suc n)))

pub differences_are : (x y : List ℤ) → NumbersWithin (2 ^ 30 - 1) x → NumbersWithin (2 ^ 30 - 1) y → map (to_z w32) (zip2 (act2 (sub signed) (s_int w32) (s_int w32) (s_int w32)) (bits x) (bits y)) ≡ zip2 ◌-ℤ◌ x y
differences_are [] y h k = refl
differences_are (a ∷ x) [] h k = refl
differences_are (a ∷ x) (b ∷ y) h k =
    let first = h 0 in
    let second = k 0 in
    let here : to_z w32 (of_z w32 (to_z w32 (of_z w32 a) -ℤ to_z w32 (of_z w32 b))) ≡ a -ℤ b = omega (arith, ints) in
    let rest = differences_are x y (λ n. h (suc n)) (λ n. k (suc n)) in
    λ i. here i ∷ rest i

pub lane_of : (f : ℤ → ℤ → ℤ) (x y : List ℤ) (l : ℕ) → length x ≡ 8 → length y ≡ 8 → l < 8 → number_at (zip2 f x y) l ≡ f (number_at x l) (number_at y l)
lane_of f x y l x_long y_long h = get_or-zip2 f x y l (pos 0) (pos 0) (pos 0) (omega arith) (omega arith)

-- a row's components, from its pairs
pub row-re : (bound most : ℕ) (x : Row) → length x.re ≡ 8 → bound ≤ most → RowOfSize bound x → NumbersWithin most x.re
row-re bound most x long h row = within_eight most x.re long (λ l lt. let w = within-size bound (row_lane x l) (row.each l lt) in omega (arith, w.re))

pub row-im : (bound most : ℕ) (x : Row) → length x.im ≡ 8 → bound ≤ most → RowOfSize bound x → NumbersWithin most x.im
row-im bound most x long h row = within_eight most x.im long (λ l lt. let w = within-size bound (row_lane x l) (row.each l lt) in omega (arith, w.im))

pub turns-re : (x : Row) → length x.re ≡ 8 → RowOfTurns x → NumbersWithin (2 ^ 31 - 1) x.re
turns-re x long row = within_eight (2 ^ 31 - 1) x.re long (λ l lt. let w = row.within l lt in omega (arith, w.re))

pub turns-im : (x : Row) → length x.im ≡ 8 → RowOfTurns x → NumbersWithin (2 ^ 31 - 1) x.im
turns-im x long row = within_eight (2 ^ 31 - 1) x.im long (λ l lt. let w = row.within l lt in omega (arith, w.im))

-- a turned pair is small
pub turned-within : (w z t : Cx) → t ≡ scaled_product w z → IsOfSize 1048577 w → IsOfSize (2 ^ 30 - 2 ^ 12) z → IsWithin (2 ^ 30 - 1) t
turned-within w z t is w_size z_size =
    rw is (within-size (2 ^ 30 - 1) (scaled_product w z) (wider _ (2 ^ 30 - 1) _ (omega arith) (size-scaled_product (2 ^ 30 - 2 ^ 12) w z w_size z_size)))

-- the pairs of a row in wider lanes
pub same-lane : (x : Row) (re im : List ℤ) (l : ℕ) → re ≡ x.re → im ≡ x.im → let wide : Eight = record { re = re; im = im } in lane wide l ≡ row_lane x l
same-lane x re im l re_is im_is = rw (re_is, im_is) refl

-- eight lanes that hold turned pairs
abbrev pub wide : List ℤ → List ℤ → Eight
wide re im = record { re = re; im = im }

pub record AreTurned (turns x : Row) (turned : Eight) : Type 0 where
  pub value : (l : ℕ) → l < 8 → lane turned l ≡ scaled_product (row_lane turns l) (row_lane x l)
  pub re : NumbersWithin (2 ^ 30 - 1) turned.re
  pub im : NumbersWithin (2 ^ 30 - 1) turned.im

pub are_turned : (turns x : Row) (a b p q : List ℤ) (turned : Eight) → a ≡ turns.re → b ≡ turns.im → p ≡ x.re → q ≡ x.im → length turned.re ≡ 8 → length turned.im ≡ 8 → RowOfTurns turns → RowOfSize (2 ^ 30 - 2 ^ 12) x
    → ((l : ℕ) → l < 8 → lane turned l ≡ scaled_product (lane (wide a b) l) (lane (wide p q) l)) → AreTurned turns x turned
are_turned turns x a b p q turned a_is b_is p_is q_is re_long im_long turns_fit x_fits value =
    let is : (l : ℕ) → l < 8 → lane turned l ≡ scaled_product (row_lane turns l) (row_lane x l) = λ l lt. value l lt ∙ rw (same-lane turns a b l a_is b_is, same-lane x p q l p_is q_is) refl in
    let small : (l : ℕ) → l < 8 → IsWithin (2 ^ 30 - 1) (lane turned l) = λ l lt. turned-within (row_lane turns l) (row_lane x l) (lane turned l) (is l lt) (turns_fit.size l lt) (x_fits.each l lt) in
    record {
      value = is;
      re = within_eight (2 ^ 30 - 1) turned.re re_long (λ l lt. (small l lt).re);
      im = within_eight (2 ^ 30 - 1) turned.im im_long (λ l lt. (small l lt).im);
    }

-- the narrow row of them
pub narrow-lane : (turned : Eight) (y : Row) (l : ℕ) → y.re ≡ turned.re → y.im ≡ turned.im → row_lane y l ≡ lane turned l
narrow-lane turned y l re_is im_is = rw (re_is, im_is) refl

-- ---- two rows shuffled
word_at : (xs ys : List ℤ) (k : ℕ) → NumbersWithin (2 ^ 31 - 1) xs → NumbersWithin (2 ^ 31 - 1) ys → to_z w32 (get_or (bits xs ++ bits ys) k 0) ≡ number_at (xs ++ ys) k
word_at [] [] k h g = refl
word_at [] (y ∷ ys) zero h g = to_z-of_z w32 y (fits y (g 0))
word_at [] (y ∷ ys) (suc k) h g = word_at [] ys k h (λ n. g (suc n))
word_at (x ∷ xs) ys zero h g = to_z-of_z w32 x (fits x (h 0))
word_at (x ∷ xs) ys (suc k) h g = word_at xs ys k (λ n. h (suc n)) g

words_at : (ks : List ℕ) (xs ys : List ℤ) → NumbersWithin (2 ^ 31 - 1) xs → NumbersWithin (2 ^ 31 - 1) ys → map (λ k. to_z w32 (get_or (bits xs ++ bits ys) k 0)) ks ≡ map (λ k. number_at (xs ++ ys) k) ks
words_at [] xs ys h g = refl
words_at (k ∷ ks) xs ys h g =
    let here = word_at xs ys k h g in
    let rest = words_at ks xs ys h g in
    λ i. here i ∷ rest i

two_places : (a b : Row) (m : ℕ) → length a.re ≡ 8 → length a.im ≡ 8 → let pair : Cx = record { re = number_at (a.re ++ b.re) m; im = number_at (a.im ++ b.im) m } in pair ≡ place_of_two a b m
two_places a b m re_long im_long =
    elim (cases_lt m 8) [
      | inl here ↦
          let first : ltb m 8 ≡ true = lt-ltb m 8 here in
          let re = get_or_append_left a.re b.re (pos 0) m (omega arith) in
          let im = get_or_append_left a.im b.im (pos 0) m (omega arith) in
          rw first (λ i. record { re = re i; im = im i })
      | inr past ↦
          let last : ltb m 8 ≡ false = grind arith in
          let re = get_or-append_right a.re b.re 8 m (pos 0) re_long past in
          let im = get_or-append_right a.im b.im 8 m (pos 0) im_long past in
          rw last (λ i. record { re = re i; im = im i })
    ]

pub shuffled : (ks : List ℕ) (a b : Row) (place : ℕ → ℕ) (re im : List ℤ) → length a.re ≡ 8 → length a.im ≡ 8 → NumbersWithin (2 ^ 31 - 1) a.re → NumbersWithin (2 ^ 31 - 1) b.re → NumbersWithin (2 ^ 31 - 1) a.im → NumbersWithin (2 ^ 31 - 1) b.im
    → re ≡ map (λ k. to_z w32 (get_or (bits a.re ++ bits b.re) k 0)) ks → im ≡ map (λ k. to_z w32 (get_or (bits a.im ++ bits b.im) k 0)) ks
    → ((f : ℕ → ℤ) (l : ℕ) → l < 8 → number_at (map f ks) l ≡ f (place l)) → (l : ℕ) → l < 8 → let row : Row = record { re = re; im = im } in row_lane row l ≡ place_of_two a b (place l)
shuffled ks a b place re im re_long im_long are bre aim bim re_is im_is at l lt =
    let first : number_at re l ≡ number_at (a.re ++ b.re) (place l) = ap (λ r. number_at r l) (re_is ∙ words_at ks a.re b.re are bre) ∙ at (number_at (a.re ++ b.re)) l lt in
    let second : number_at im l ≡ number_at (a.im ++ b.im) (place l) = ap (λ r. number_at r l) (im_is ∙ words_at ks a.im b.im aim bim) ∙ at (number_at (a.im ++ b.im)) l lt in
    let pair = two_places a b (place l) re_long im_long in
    (λ i. record { re = first i; im = second i }) ∙ pair

-- every second word of two lists of eight, from word 0 or 1 on
pub second_words : (ks : List ℕ) (a b words : List ℤ) (odd : ℕ) (f : ℕ → ℤ) → odd < 2 → length a ≡ 8 → NumbersWithin (2 ^ 31 - 1) a → NumbersWithin (2 ^ 31 - 1) b → words ≡ map (λ k. to_z w32 (get_or (bits a ++ bits b) k 0)) ks → ((g : ℕ → ℤ) (l : ℕ) → l < 8 → number_at (map g ks) l ≡ g (2 * l + odd))
    → ((k : ℕ) → k < 4 → number_at a (2 * k + odd) ≡ f k) → ((k : ℕ) → k < 4 → number_at b (2 * k + odd) ≡ f (4 + k)) → (l : ℕ) → l < 8 → number_at words l ≡ f l
second_words ks a b words odd f small long a_within b_within is at first last l lt =
    ap (λ r. number_at r l) (is ∙ words_at ks a b a_within b_within) ∙ at (number_at (a ++ b)) l lt
    ∙ elim (cases_lt l 4) [
      | inl here ↦ get_or_append_left a b (pos 0) (2 * l + odd) (omega arith) ∙ first l here
      | inr past ↦
          let behind : 2 * l + odd - 8 ≡ 2 * (l - 4) + odd = omega arith in
          let place : 4 + (l - 4) ≡ l = omega arith in
          get_or-append_right a b 8 (2 * l + odd) (pos 0) long (omega arith)
          ∙ ap (number_at b) behind
          ∙ last (l - 4) (omega arith)
          ∙ ap f place
    ]

-- each other word of two lists of eight, from the first list and from the second in turn
abbrev in_turn : List ℕ
in_turn = 0 ∷ 9 ∷ 2 ∷ 11 ∷ 4 ∷ 13 ∷ 6 ∷ 15 ∷ []

word_in_turn : (a b words : List ℤ) → NumbersWithin (2 ^ 31 - 1) a → NumbersWithin (2 ^ 31 - 1) b → words ≡ map (λ k. to_z w32 (get_or (bits a ++ bits b) k 0)) in_turn → (l : ℕ) → l < 8 → number_at words l ≡ number_at (a ++ b) (l + 8 * (l % 2))
word_in_turn a b words a_within b_within is l lt =
    let g = number_at (a ++ b) in
    ap (λ r. number_at r l) (is ∙ words_at in_turn a b a_within b_within) ∙ at_eight (λ l. number_at (map g in_turn) l ≡ g (l + 8 * (l % 2))) refl refl refl refl refl refl refl refl l lt

pub even_word : (a b words : List ℤ) → length a ≡ 8 → NumbersWithin (2 ^ 31 - 1) a → NumbersWithin (2 ^ 31 - 1) b → words ≡ map (λ k. to_z w32 (get_or (bits a ++ bits b) k 0)) in_turn → (l : ℕ) → l < 8 → l % 2 ≡ 0 → number_at words l ≡ number_at a l
even_word a b words long a_within b_within is l lt even =
    let at : l + 8 * (l % 2) ≡ l = omega arith in
    word_in_turn a b words a_within b_within is l lt ∙ ap (number_at (a ++ b)) at ∙ get_or_append_left a b (pos 0) l (omega arith)

pub odd_word : (a b words : List ℤ) → length a ≡ 8 → NumbersWithin (2 ^ 31 - 1) a → NumbersWithin (2 ^ 31 - 1) b → words ≡ map (λ k. to_z w32 (get_or (bits a ++ bits b) k 0)) in_turn → (l : ℕ) → l < 8 → l % 2 ≡ 1 → number_at words l ≡ number_at b l
odd_word a b words long a_within b_within is l lt odd =
    let at : l + 8 * (l % 2) - 8 ≡ l = omega arith in
    word_in_turn a b words a_within b_within is l lt ∙ get_or-append_right a b 8 (l + 8 * (l % 2)) (pos 0) long (omega arith) ∙ ap (number_at b) at

-- differences are words
pub differences-within : (x y d : List ℤ) → length d ≡ 8 → NumbersWithin (2 ^ 30 - 1) x → NumbersWithin (2 ^ 30 - 1) y → ((l : ℕ) → l < 8 → number_at d l ≡ number_at x l -ℤ number_at y l) → NumbersWithin (2 ^ 31 - 1) d
differences-within x y d long h k is = within_eight (2 ^ 31 - 1) d long (λ l lt. let first = h l in let second = k l in rw (is l lt) (omega (arith, ints)))

-- ---- turned back
pub record AreTurnedBack (turns x : Row) (turned : Eight) : Type 0 where
  pub value : (l : ℕ) → l < 8 → lane turned l ≡ scaled_product (conjugate (row_lane turns l)) (row_lane x l)
  pub re : NumbersWithin (2 ^ 31 - 1) turned.re
  pub im : NumbersWithin (2 ^ 31 - 1) turned.im

turned_back-within : (w z t : Cx) → t ≡ scaled_product (conjugate w) z → IsOfSize 1048577 w → IsOfSize (2 ^ 30 + 2 ^ 15) z → IsWithin (2 ^ 31 - 1) t
turned_back-within w z t is w_size z_size =
    rw is (within-size (2 ^ 31 - 1) (scaled_product (conjugate w) z) (wider _ (2 ^ 31 - 1) _ (omega arith) (size-scaled_product (2 ^ 30 + 2 ^ 15) (conjugate w) z (size-conjugate 1048577 w w_size) z_size)))

pub are_turned_back : (turns x : Row) (a b p q : List ℤ) (turned : Eight) → a ≡ turns.re → b ≡ turns.im → p ≡ x.re → q ≡ x.im → length turned.re ≡ 8 → length turned.im ≡ 8 → RowOfTurns turns → RowOfSize (2 ^ 30 + 2 ^ 15) x
    → ((l : ℕ) → l < 8 → lane turned l ≡ scaled_product (conjugate (lane (wide a b) l)) (lane (wide p q) l)) → AreTurnedBack turns x turned
are_turned_back turns x a b p q turned a_is b_is p_is q_is re_long im_long turns_fit x_fits value =
    let is : (l : ℕ) → l < 8 → lane turned l ≡ scaled_product (conjugate (row_lane turns l)) (row_lane x l) = λ l lt. value l lt ∙ (ap (λ (z : Cx). scaled_product (conjugate z) (lane (wide p q) l)) (same-lane turns a b l a_is b_is) ∙ ap (scaled_product (conjugate (row_lane turns l))) (same-lane x p q l p_is q_is)) in
    let small : (l : ℕ) → l < 8 → IsWithin (2 ^ 31 - 1) (lane turned l) = λ l lt. turned_back-within (row_lane turns l) (row_lane x l) (lane turned l) (is l lt) (turns_fit.size l lt) (x_fits.each l lt) in
    record {
      value = is;
      re = within_eight (2 ^ 31 - 1) turned.re re_long (λ l lt. (small l lt).re);
      im = within_eight (2 ^ 31 - 1) turned.im im_long (λ l lt. (small l lt).im);
    }

-- a sum and a difference of two rows, from their components
pub plain-sum : (x y : Cx) (re im : ℤ) → re ≡ x.re +ℤ y.re → im ≡ x.im +ℤ y.im → let pair : Cx = record { re = re; im = im } in pair ≡ plus x y
plain-sum x y re im re_is im_is = rw (re_is, im_is) refl

pub plain-difference : (x y : Cx) (re im : ℤ) → re ≡ x.re -ℤ y.re → im ≡ x.im -ℤ y.im → let pair : Cx = record { re = re; im = im } in pair ≡ minus x y
plain-difference x y re im re_is im_is = rw (re_is, im_is) refl

pub difference-size : (x y z : Cx) → z ≡ minus x y → IsOfSize (2 ^ 29 + 2 ^ 14) x → IsOfSize (2 ^ 29 + 2 ^ 14) y → IsOfSize (2 ^ 30 + 2 ^ 15) z
difference-size x y z is h k = rw is (size-minus (2 ^ 29 + 2 ^ 14) (2 ^ 29 + 2 ^ 14) x y h k)
