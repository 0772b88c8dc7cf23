-- The greater and the lesser of numbers of 16 bits, lane by lane, and what bounds on them say of samples.
use Rattle.std.proofs.Common.{◌≡◌, inl, inr, ℕ, zero, suc, ◌+◌, ◌-◌, ◌<◌, ◌≤◌, List, [], ◌∷◌, map, Bool, true, false, cond, ℤ, pos, neg_ℤ, ◌≤ℤ◌, to_z, of_z, refl, ap, ◌∙◌, arith}
use Rattle.std.specs.Prelude.{FitsSigned, int_lt, nat_lt, unsigned_abs}
use Rattle.std.specs.Int.{int_max, int_min}
use Rattle.std.specs.List.{slice_range}
use Rattle.std.specs.Simd.Lanes.{zip2, sel_l, top}
use Rattle.std.proofs.lemmas.Bool.{cases_lt}
use Rattle.std.proofs.lemmas.Bool.Decides.{nat_tests}
use Rattle.std.proofs.lemmas.Int.{ints, clamps, to_z-of_z}
use borrow.Rule.Simd.Lanes.{act2}
use borrow.Table.Row.{s_int}
use mir.Syntax.{mask, lt, signed, w16}
use Rattle.fixed_complex.specs.declared.Sample.{Sample}
use Rattle.fixed_complex.specs.Numbers.{number_at}
use Rattle.fixed_complex.specs.Samples.{sample_at}
use Rattle.lane_kernels.specs.Kernels.{is_loud}
use Rattle.lane_kernels.specs.Lanes.{AreOf16Bits, components_of, eight}
use Rattle.integer_laws.proofs.FewPlaces.{at_four}
use Rattle.lane_kernels.proofs.LaneSums.{to_z-cond}
use Rattle.lane_kernels.proofs.Totals.{eight-at}
use Rattle.lane_kernels.proofs.Wholes.{sample-chunk}

-- the lanes of a comparison
abbrev less_lanes : List ℤ → List ℤ → List Bool
less_lanes x y = map (top 15) (zip2 (act2 (mask (lt signed)) (s_int w16) (s_int w16) (s_int w16)) (map (of_z w16) x) (map (of_z w16) y))

abbrev pub greater_lanes : List ℤ → List ℤ → List ℤ
greater_lanes x y = map (to_z w16) (sel_l (less_lanes x y) (map (of_z w16) y) (map (of_z w16) x))

abbrev pub lesser_lanes : List ℤ → List ℤ → List ℤ
lesser_lanes x y = map (to_z w16) (sel_l (less_lanes x y) (map (of_z w16) x) (map (of_z w16) y))

-- in one lane
picked : (t : Bool) → top 15 (cond t 65535 0) ≡ t
picked true = refl
picked false = refl

max-of : (a b : ℤ) → cond (int_lt a b) b a ≡ int_max a b
max-of a b = grind (arith, ints)

min-of : (a b : ℤ) → cond (int_lt a b) a b ≡ int_min a b
min-of a b = grind (arith, ints)

max-lane : (a b : ℤ) → FitsSigned w16 a → FitsSigned w16 b → to_z w16 (cond (top 15 (cond (int_lt (to_z w16 (of_z w16 a)) (to_z w16 (of_z w16 b))) 65535 0)) (of_z w16 b) (of_z w16 a)) ≡ int_max a b
max-lane a b h k =
    rw (picked (int_lt (to_z w16 (of_z w16 a)) (to_z w16 (of_z w16 b))), to_z-cond w16 (int_lt (to_z w16 (of_z w16 a)) (to_z w16 (of_z w16 b))) (of_z w16 b) (of_z w16 a), to_z-of_z w16 a h, to_z-of_z w16 b k) (max-of a b)

min-lane : (a b : ℤ) → FitsSigned w16 a → FitsSigned w16 b → to_z w16 (cond (top 15 (cond (int_lt (to_z w16 (of_z w16 a)) (to_z w16 (of_z w16 b))) 65535 0)) (of_z w16 a) (of_z w16 b)) ≡ int_min a b
min-lane a b h k =
    rw (picked (int_lt (to_z w16 (of_z w16 a)) (to_z w16 (of_z w16 b))), to_z-cond w16 (int_lt (to_z w16 (of_z w16 a)) (to_z w16 (of_z w16 b))) (of_z w16 a) (of_z w16 b), to_z-of_z w16 a h, to_z-of_z w16 b k) (min-of a b)

pub greater-are : (x y : List ℤ) → AreOf16Bits x → AreOf16Bits y → greater_lanes x y ≡ zip2 int_max x y
greater-are [] y h k = refl
greater-are (a ∷ x) [] h k = refl
greater-are (a ∷ x) (b ∷ y) h k =
    let here = max-lane a b (h 0) (k 0) in
    let rest = greater-are x y (λ n. h (suc n)) (λ n. k (suc n)) in
    λ i. here i ∷ rest i

pub lesser-are : (x y : List ℤ) → AreOf16Bits x → AreOf16Bits y → lesser_lanes x y ≡ zip2 int_min x y
lesser-are [] y h k = refl
lesser-are (a ∷ x) [] h k = refl
lesser-are (a ∷ x) (b ∷ y) h k =
    let here = min-lane a b (h 0) (k 0) in
    let rest = lesser-are x y (λ n. h (suc n)) (λ n. k (suc n)) in
    λ i. here i ∷ rest i

either-fits : (t : Bool) (a b : ℤ) → FitsSigned w16 a → FitsSigned w16 b → FitsSigned w16 (cond t a b)
either-fits true a b h k = h
either-fits false a b h k = k

pub zip2-of_16_bits : (f : ℤ → ℤ → ℤ) → ((a b : ℤ) → FitsSigned w16 a → FitsSigned w16 b → FitsSigned w16 (f a b)) → (x y : List ℤ) → AreOf16Bits x → AreOf16Bits y → AreOf16Bits (zip2 f x y)
zip2-of_16_bits f fits [] y h k n = h n
zip2-of_16_bits f fits (a ∷ x) [] h k n = k n
zip2-of_16_bits f fits (a ∷ x) (b ∷ y) h k zero = fits a b (h 0) (k 0)
zip2-of_16_bits f fits (a ∷ x) (b ∷ y) h k (suc n) = zip2-of_16_bits f fits x y (λ m. h (suc m)) (λ m. k (suc m)) n

pub max-fits : (a b : ℤ) → FitsSigned w16 a → FitsSigned w16 b → FitsSigned w16 (int_max a b)
max-fits a b h k = either-fits (int_lt b a) a b h k

pub min-fits : (a b : ℤ) → FitsSigned w16 a → FitsSigned w16 b → FitsSigned w16 (int_min a b)
min-fits a b h k = either-fits (int_lt b a) b a k h

-- what bounds the greatest and the least of four bounds each
abbrev pub is_small : ℤ → Bool
is_small z = nat_lt 256 (unsigned_abs z)

quiet : (z : ℤ) → z ≤ℤ pos 256 → neg_ℤ (pos 256) ≤ℤ z → is_small z ≡ false
quiet z high low =
    let size : unsigned_abs z ≤ 256 = omega (arith, ints) in
    grind (arith, nat_tests)

max-first : (a b : ℤ) → a ≤ℤ int_max a b
max-first a b = omega (arith, ints, clamps)

max-second : (a b : ℤ) → b ≤ℤ int_max a b
max-second a b = omega (arith, ints, clamps)

min-first : (a b : ℤ) → int_min a b ≤ℤ a
min-first a b = omega (arith, ints, clamps)

min-second : (a b : ℤ) → int_min a b ≤ℤ b
min-second a b = omega (arith, ints, clamps)

quiet_between : (z high low most least : ℤ) → z ≤ℤ high → low ≤ℤ z → high ≤ℤ most → least ≤ℤ low → most ≤ℤ pos 256 → neg_ℤ (pos 256) ≤ℤ least → is_small z ≡ false
quiet_between z high low most least a b c d above below = quiet z (omega (arith, ints)) (omega (arith, ints))

entry_of : (f : ℤ → ℤ → ℤ) (x y r : List ℤ) → r ≡ eight (λ n. f (number_at x n) (number_at y n)) → (n : ℕ) → n < 8 → number_at r n ≡ f (number_at x n) (number_at y n)
entry_of f x y r is n below = ap (λ l. number_at l n) is ∙ eight-at (λ n. f (number_at x n) (number_at y n)) n below

pub record AreExtremes (x y most least : List ℤ) : Type 0 where
  pub high : most ≡ eight (λ n. int_max (number_at x n) (number_at y n))
  pub low : least ≡ eight (λ n. int_min (number_at x n) (number_at y n))

-- the numbers lie between, lane by lane
record LieBetween (x most least : List ℤ) : Type 0 where
  high : (n : ℕ) → n < 8 → number_at x n ≤ℤ number_at most n
  low : (n : ℕ) → n < 8 → number_at least n ≤ℤ number_at x n

first_between : (x y high low : List ℤ) → AreExtremes x y high low → LieBetween x high low
first_between x y high low h = record {
  high = λ n below. rw (entry_of int_max x y high h.high n below) (max-first (number_at x n) (number_at y n));
  low = λ n below. rw (entry_of int_min x y low h.low n below) (min-first (number_at x n) (number_at y n));
}

second_between : (x y high low : List ℤ) → AreExtremes x y high low → LieBetween y high low
second_between x y high low h = record {
  high = λ n below. rw (entry_of int_max x y high h.high n below) (max-second (number_at x n) (number_at y n));
  low = λ n below. rw (entry_of int_min x y low h.low n below) (min-second (number_at x n) (number_at y n));
}

pub record AreQuiet (x : List ℤ) : Type 0 where
  pub each : (n : ℕ) → n < 8 → is_small (number_at x n) ≡ false

quiet_inside : (x high low most least : List ℤ) → LieBetween x high low → ((n : ℕ) → n < 8 → number_at high n ≤ℤ number_at most n) → ((n : ℕ) → n < 8 → number_at least n ≤ℤ number_at low n) → ((n : ℕ) → number_at most n ≤ℤ pos 256) → ((n : ℕ) → neg_ℤ (pos 256) ≤ℤ number_at least n) → AreQuiet x
quiet_inside x high low most least in_x up down above below = record {
  each = λ n lt. quiet_between (number_at x n) (number_at high n) (number_at low n) (number_at most n) (number_at least n) (in_x.high n lt) (in_x.low n lt) (up n lt) (down n lt) (above n) (below n);
}

pub record AreAllQuiet (x y z w : List ℤ) : Type 0 where
  pub first : AreQuiet x
  pub second : AreQuiet y
  pub third : AreQuiet z
  pub fourth : AreQuiet w

pub all_quiet : (x y z w high low tall deep most least : List ℤ) → AreExtremes x y high low → AreExtremes z w tall deep → most ≡ eight (λ n. int_max (number_at high n) (number_at tall n)) → least ≡ eight (λ n. int_min (number_at low n) (number_at deep n)) → ((n : ℕ) → number_at most n ≤ℤ pos 256) → ((n : ℕ) → neg_ℤ (pos 256) ≤ℤ number_at least n) → AreAllQuiet x y z w
all_quiet x y z w high low tall deep most least a b most_is least_is above below =
    let up_first = λ (n : ℕ) (lt : n < 8). let e = entry_of int_max high tall most most_is n lt in let here : number_at high n ≤ℤ number_at most n = rw e (max-first (number_at high n) (number_at tall n)) in here in
    let up_second = λ (n : ℕ) (lt : n < 8). let e = entry_of int_max high tall most most_is n lt in let here : number_at tall n ≤ℤ number_at most n = rw e (max-second (number_at high n) (number_at tall n)) in here in
    let down_first = λ (n : ℕ) (lt : n < 8). let e = entry_of int_min low deep least least_is n lt in let here : number_at least n ≤ℤ number_at low n = rw e (min-first (number_at low n) (number_at deep n)) in here in
    let down_second = λ (n : ℕ) (lt : n < 8). let e = entry_of int_min low deep least least_is n lt in let here : number_at least n ≤ℤ number_at deep n = rw e (min-second (number_at low n) (number_at deep n)) in here in
    record {
      first = quiet_inside x high low most least (first_between x y high low a) up_first down_first above below;
      second = quiet_inside y high low most least (second_between x y high low a) up_first down_first above below;
      third = quiet_inside z tall deep most least (first_between z w tall deep b) up_second down_second above below;
      fourth = quiet_inside w tall deep most least (second_between z w tall deep b) up_second down_second above below;
    }

-- four samples whose components are quiet
quiet_sample : (s : Sample) → is_small s.i ≡ false → is_small s.q ≡ false → is_loud s ≡ false
quiet_sample s i q = rw (i, q) refl

pub four_quiet : (x : List ℤ) (f : ℕ → Sample) → x ≡ components_of f → AreQuiet x → (n : ℕ) → n < 4 → is_loud (f n) ≡ false
four_quiet x f is h =
    at_four (λ n. is_loud (f n) ≡ false)
    (quiet_sample (f 0) (rw is at (h.each 0 (omega arith))) (rw is at (h.each 1 (omega arith)))) (quiet_sample (f 1) (rw is at (h.each 2 (omega arith))) (rw is at (h.each 3 (omega arith))))
    (quiet_sample (f 2) (rw is at (h.each 4 (omega arith))) (rw is at (h.each 5 (omega arith)))) (quiet_sample (f 3) (rw is at (h.each 6 (omega arith))) (rw is at (h.each 7 (omega arith))))

-- four times four samples
quiet_at : (a : List Sample) (i j n : ℕ) → j ≡ i + 4 → ((m : ℕ) → m < 4 → is_loud (sample_at (slice_range a i j) m) ≡ false) → i ≤ n → n < j → is_loud (sample_at a n) ≡ false
quiet_at a i j n e chunk least below =
    let at : i + (n - i) ≡ n = omega arith in
    let within : n - i < 4 = omega arith in
    let here = rw (sample-chunk a 4 i j (n - i) e within) at (chunk (n - i) within) in
    rw at at here

pub sixteen_quiet : (a : List Sample) (x y z w : List ℤ) → x ≡ components_of (sample_at (slice_range a 0 4)) → y ≡ components_of (sample_at (slice_range a 4 8)) → z ≡ components_of (sample_at (slice_range a 8 12)) → w ≡ components_of (sample_at (slice_range a 12 16)) → AreAllQuiet x y z w → (n : ℕ) → n < 16 → is_loud (sample_at a n) ≡ false
sixteen_quiet a x y z w x_is y_is z_is w_is h n below =
    elim (cases_lt n 4) [
      | inl first ↦ quiet_at a 0 4 n refl (four_quiet x (sample_at (slice_range a 0 4)) x_is h.first) (omega arith) first
      | inr past ↦ elim (cases_lt n 8) [
        | inl second ↦ quiet_at a 4 8 n refl (four_quiet y (sample_at (slice_range a 4 8)) y_is h.second) past second
        | inr farther ↦ elim (cases_lt n 12) [
          | inl third ↦ quiet_at a 8 12 n refl (four_quiet z (sample_at (slice_range a 8 12)) z_is h.third) farther third
          | inr last ↦ quiet_at a 12 16 n refl (four_quiet w (sample_at (slice_range a 12 16)) w_is h.fourth) last below
        ]
      ]
    ]
