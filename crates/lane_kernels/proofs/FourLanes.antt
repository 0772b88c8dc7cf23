-- Four lanes: numbers added to sums, and sums by place.
use Rattle.std.proofs.Common.{◌≡◌, ℕ, zero, suc, ◌+◌, ◌*◌, ◌^◌, ◌<◌, ◌≤◌, List, [], ◌∷◌, map, length, get_or, ℤ, pos, ◌+ℤ◌, ◌-ℤ◌, ◌*ℤ◌, ◌≤ℤ◌, to_z, of_z, w32, w64, refl, sym, ap, subst, ◌∙◌, arith}
use Rattle.std.specs.Prelude.{unsigned_abs, FitsSigned}
use Rattle.std.specs.Simd.Lanes.{zip2, Each2}
use Rattle.std.proofs.lemmas.Int.{ints}
use Rattle.std.proofs.lemmas.List.{get_or-map}
use Rattle.std.proofs.Math.Nat.{mul-le-mul}
use borrow.Rule.Simd.Lanes.{act1, act2, Asks2}
use borrow.Table.Row.{s_int}
use mir.Syntax.{add, cast, signed, unsigned}
use mir.Val.{Fits}
use Rattle.lane_kernels.specs.Lanes.{four, total_below, total_of}
use Rattle.fixed_complex.specs.Numbers.{NumbersWithin, number_at}
use Rattle.integer_laws.proofs.FewPlaces.{at_four}
use Rattle.lane_kernels.proofs.LaneSums.{kept, kept-is, pos-sum}
use Rattle.lane_kernels.proofs.Totals.{total-one}

-- a list of four is one entry for each lane
pub four_of : {X : Type 0} (d : X) (xs : List X) → length xs ≡ 4 → xs ≡ four (λ n. get_or xs n d)
four_of d [] h = absurd (omega arith)
four_of d (a ∷ []) h = absurd (omega arith)
four_of d (a ∷ b ∷ []) h = absurd (omega arith)
four_of d (a ∷ b ∷ c ∷ []) h = absurd (omega arith)
four_of d (a ∷ b ∷ c ∷ e ∷ []) h = refl
four_of d (a ∷ b ∷ c ∷ e ∷ f ∷ r) h = absurd (omega arith)

-- four entries are the same where each of them is
pub four-same : {X : Type 0} (f g : ℕ → X) → ((n : ℕ) → n < 4 → f n ≡ g n) → four f ≡ four g
four-same f g h =
    let h0 = h 0 (omega arith) in let h1 = h 1 (omega arith) in let h2 = h 2 (omega arith) in let h3 = h 3 (omega arith) in
    λ i. h0 i ∷ h1 i ∷ h2 i ∷ h3 i ∷ []

-- what holds of each of them and of 0 holds at every place
pub four-each : (P : ℤ → Type 0) (f : ℕ → ℤ) → P (f 0) → P (f 1) → P (f 2) → P (f 3) → P (pos 0) → (n : ℕ) → P (number_at (four f) n)
four-each P f h0 h1 h2 h3 none zero = h0
four-each P f h0 h1 h2 h3 none (suc zero) = h1
four-each P f h0 h1 h2 h3 none (suc (suc zero)) = h2
four-each P f h0 h1 h2 h3 none (suc (suc (suc zero))) = h3
four-each P f h0 h1 h2 h3 none (suc (suc (suc (suc n)))) = none

-- numbers of 32 bits added to sums
abbrev pub widened : List ℕ → List ℕ
widened = map (act1 (cast unsigned signed w64) (s_int w32) (s_int w64))

pub numbers_fit : (s : List ℤ) (m : List ℕ) → NumbersWithin (2 ^ 62) s → NumbersWithin (2 ^ 33) (map pos m) → Each2 (Asks2 (add signed) (s_int w64) (s_int w64)) (map (of_z w64) s) (widened m)
numbers_fit [] m h k = tt
numbers_fit (a ∷ s) [] h k = tt
numbers_fit (a ∷ s) (b ∷ m) h k =
    let small = h 0 in
    let fits = k 0 in
    let here : FitsSigned w64 (to_z w64 (of_z w64 a) +ℤ to_z w64 b) = omega (arith, ints) in
    (here, numbers_fit s m (λ n. h (suc n)) (λ n. k (suc n)))

pub numbers_are : (s : List ℤ) (m : List ℕ) → NumbersWithin (2 ^ 62) s → NumbersWithin (2 ^ 33) (map pos m) → map (to_z w64) (zip2 (act2 (add signed) (s_int w64) (s_int w64) (s_int w64)) (map (of_z w64) s) (widened m)) ≡ zip2 ◌+ℤ◌ s (map pos m)
numbers_are [] m h k = refl
numbers_are (a ∷ s) [] h k = refl
numbers_are (a ∷ s) (b ∷ m) h k =
    let small = h 0 in
    let fits = k 0 in
    let rest = numbers_are s m (λ n. h (suc n)) (λ n. k (suc n)) in
    let here : to_z w64 (of_z w64 (to_z w64 (of_z w64 a) +ℤ to_z w64 b)) ≡ a +ℤ pos b = omega (arith, ints) in
    λ i. here i ∷ rest i

pub four_sums : (x y : List ℤ) → length x ≡ 4 → length y ≡ 4 → zip2 ◌+ℤ◌ x y ≡ four (λ n. number_at x n +ℤ number_at y n)
four_sums x y h k =
    ap (λ l. zip2 ◌+ℤ◌ l y) (four_of (pos 0) x h) ∙ ap (λ l. zip2 ◌+ℤ◌ (four (number_at x)) l) (four_of (pos 0) y k)

-- how far the sums grow
pub sums-grow : (s new x : List ℤ) (bound step : ℕ) → new ≡ four (λ n. number_at s n +ℤ number_at x n) → NumbersWithin bound s → NumbersWithin step x → NumbersWithin (bound + step) new
sums-grow s new x bound step is h k =
    let each = λ (n : ℕ). let before = h n in let more = k n in
    let here : unsigned_abs (number_at s n +ℤ number_at x n) ≤ bound + step = omega (arith, ints) in here in
    rw is (four-each (λ z. unsigned_abs z ≤ bound + step) (λ n. number_at s n +ℤ number_at x n) (each 0) (each 1) (each 2) (each 3) (omega arith))

-- two lists of four numbers of 32 bits, of known values, added
at-four : (s : List ℕ) (f : ℕ → ℤ) (n : ℕ) → length s ≡ 4 → map pos s ≡ four f → n < 4 → number_at (four f) n ≡ f n → pos (get_or s n 0) ≡ f n
at-four s f n long is below at = sym (get_or-map pos s n 0 (pos 0) (omega arith)) ∙ ap (λ l. number_at l n) is ∙ at

word-fits : (a b : ℕ) (x y : ℤ) → pos a ≡ x → pos b ≡ y → (x +ℤ y) ≤ℤ pos 4294967295 → Fits w32 (a + b)
word-fits a b x y d e h = record { fits = omega (arith, ints) }

pub words_fit : (s m : List ℕ) (f g : ℕ → ℤ) → length s ≡ 4 → length m ≡ 4 → map pos s ≡ four f → map pos m ≡ four g → ((n : ℕ) → n < 4 → (f n +ℤ g n) ≤ℤ pos 4294967295) → Each2 (Asks2 (add unsigned) (s_int w32) (s_int w32)) s m
words_fit s m f g s_long m_long s_is m_is h =
    let one = λ (n : ℕ) (below : n < 4) (at_f : number_at (four f) n ≡ f n) (at_g : number_at (four g) n ≡ g n).
    word-fits (get_or s n 0) (get_or m n 0) (f n) (g n) (at-four s f n s_long s_is below at_f) (at-four m g n m_long m_is below at_g) (h n below) in
    subst (λ (l : List ℕ). Each2 (Asks2 (add unsigned) (s_int w32) (s_int w32)) l m) (sym (four_of 0 s s_long))
    (subst (λ (l : List ℕ). Each2 (Asks2 (add unsigned) (s_int w32) (s_int w32)) (four (λ n. get_or s n 0)) l) (sym (four_of 0 m m_long))
    (one 0 (omega arith) refl refl, (one 1 (omega arith) refl refl, (one 2 (omega arith) refl refl, (one 3 (omega arith) refl refl, tt)))))

pub words_are : (s m : List ℕ) (f g : ℕ → ℤ) → length s ≡ 4 → length m ≡ 4 → map pos s ≡ four f → map pos m ≡ four g → map pos (zip2 (act2 (add unsigned) (s_int w32) (s_int w32) (s_int w32)) s m) ≡ four (λ n. f n +ℤ g n)
words_are s m f g s_long m_long s_is m_is =
    let one = λ (n : ℕ) (below : n < 4) (at_f : number_at (four f) n ≡ f n) (at_g : number_at (four g) n ≡ g n).
    pos-sum (get_or s n 0) (get_or m n 0) (f n) (g n) (at-four s f n s_long s_is below at_f) (at-four m g n m_long m_is below at_g) in
    let e0 = one 0 (omega arith) refl refl in
    let e1 = one 1 (omega arith) refl refl in
    let e2 = one 2 (omega arith) refl refl in
    let e3 = one 3 (omega arith) refl refl in
    ap (λ (l : List ℕ). map pos (zip2 (act2 (add unsigned) (s_int w32) (s_int w32) (s_int w32)) l m)) (four_of 0 s s_long)
    ∙ (ap (λ (l : List ℕ). map pos (zip2 (act2 (add unsigned) (s_int w32) (s_int w32) (s_int w32)) (four (λ n. get_or s n 0)) l)) (four_of 0 m m_long)
    ∙ (λ i. e0 i ∷ e1 i ∷ e2 i ∷ e3 i ∷ []))

-- the sum of four lanes
pub four_total : (s : List ℤ) → length s ≡ 4 → total_of s ≡ number_at s 0 +ℤ number_at s 1 +ℤ number_at s 2 +ℤ number_at s 3
four_total s long = ap total_of (four_of (pos 0) s long) ∙ omega (arith, ints)

pub four_total-le : (s : List ℤ) (bound : ℕ) → length s ≡ 4 → NumbersWithin bound s → unsigned_abs (total_of s) ≤ bound * 4
four_total-le s bound long h = omega (arith, ints, four_total s long, h 0, h 1, h 2, h 3)

-- as the code adds them
kept-sum : (a b : ℤ) → unsigned_abs a ≤ 2 ^ 60 → unsigned_abs b ≤ 2 ^ 60 → kept (kept a +ℤ kept b) ≡ a +ℤ b
kept-sum a b h k = omega (arith, ints)

pub four_kept : (a b c d : ℤ) (bound : ℕ) → bound ≤ 2 ^ 55 → unsigned_abs a ≤ bound → unsigned_abs b ≤ bound → unsigned_abs c ≤ bound → unsigned_abs d ≤ bound → kept (kept (kept (kept a +ℤ kept b) +ℤ kept c) +ℤ kept d) ≡ a +ℤ b +ℤ c +ℤ d
four_kept a b c d bound small ha hb hc hd =
    let two : kept (kept a +ℤ kept b) ≡ a +ℤ b = kept-sum a b (omega arith) (omega arith) in
    let three : kept (kept (a +ℤ b) +ℤ kept c) ≡ a +ℤ b +ℤ c = kept-sum (a +ℤ b) c (omega (arith, ints)) (omega arith) in
    let four : kept (kept (a +ℤ b +ℤ c) +ℤ kept d) ≡ a +ℤ b +ℤ c +ℤ d = kept-sum (a +ℤ b +ℤ c) d (omega (arith, ints)) (omega arith) in
    ap (λ z. kept (kept (z +ℤ kept c) +ℤ kept d)) (two ∙ sym (kept-is (a +ℤ b) (2 ^ 60) (omega (arith, ints)) (omega arith)))
    ∙ (ap (λ z. kept (z +ℤ kept d)) (three ∙ sym (kept-is (a +ℤ b +ℤ c) (2 ^ 60) (omega (arith, ints)) (omega arith))) ∙ four)

pub four_fits : (a b c d : ℤ) (bound : ℕ) → bound ≤ 2 ^ 55 → unsigned_abs a ≤ bound → unsigned_abs b ≤ bound → unsigned_abs c ≤ bound → unsigned_abs d ≤ bound → FitsSigned w64 (kept (kept (kept a +ℤ kept b) +ℤ kept c) +ℤ kept d)
four_fits a b c d bound small ha hb hc hd =
    let two : kept (kept a +ℤ kept b) ≡ a +ℤ b = kept-sum a b (omega arith) (omega arith) in
    let three : kept (kept (kept a +ℤ kept b) +ℤ kept c) ≡ a +ℤ b +ℤ c = rw two (omega (arith, ints)) in
    rw (three, kept-is d (2 ^ 55) (omega arith) (omega arith)) (omega (arith, ints))

-- four places more
total-four : (f : ℕ → ℤ) (m n : ℕ) → n ≡ m + 4 → total_below n f ≡ total_below m f +ℤ f m +ℤ f (m + 1) +ℤ f (m + 2) +ℤ f (m + 3)
total-four f m n e =
    omega (arith, ints, total-one f m (m + 1) refl, total-one f (m + 1) (m + 2) (omega arith), total-one f (m + 2) (m + 3) (omega arith), total-one f (m + 3) n (omega arith))

-- a chunk more in the lanes
pub lanes-more : (f : ℕ → ℤ) (sums new : List ℤ) (m n : ℕ) → length sums ≡ 4 → n ≡ m + 4 → total_of sums ≡ total_below m f → new ≡ four (λ j. number_at sums j +ℤ f (m + j)) → total_of new ≡ total_below n f
lanes-more f sums new m n long e so_far is =
    let whole : total_of sums ≡ total_of (four (number_at sums)) = ap total_of (four_of (pos 0) sums long) in
    let first : m + 0 ≡ m = omega arith in
    rw is (rw first (omega (arith, ints, total-four f m n e)))

-- no chunk yet
pub none_yet : (f : ℕ → ℤ) → total_of (four (λ _. pos 0)) ≡ total_below 0 f
unfolding total_below
none_yet f = refl

pub none_within : (bound : ℕ) → NumbersWithin bound (four (λ _. pos 0))
none_within bound = four-each (λ z. unsigned_abs z ≤ bound) (λ _. pos 0) (omega arith) (omega arith) (omega arith) (omega arith) (omega arith)

-- numbers that each have so much more than a part
pub unbiased : (f : ℕ → ℤ) (bias n : ℕ) → total_below n (λ k. f k +ℤ pos bias) ≡ total_below n f +ℤ pos (n * bias)
unfolding total_below
unbiased f bias zero = let none : 0 * bias ≡ 0 = omega arith in rw none refl
unbiased f bias (suc n) =
    let rest = unbiased f bias n in
    let more : suc n * bias ≡ n * bias + bias = omega arith in
    omega (arith, ints)

-- how large a sum of parts is
pub total-le : (f : ℕ → ℤ) (bound n : ℕ) → ((k : ℕ) → k < n → unsigned_abs (f k) ≤ bound) → unsigned_abs (total_below n f) ≤ n * bound
unfolding total_below
total-le f bound zero h = omega arith
total-le f bound (suc n) h =
    let rest = total-le f bound n (λ k below. h k (omega arith)) in
    let here = h n (omega arith) in
    let more : suc n * bound ≡ n * bound + bound = omega arith in
    omega (arith, ints)

-- a chunk's numbers, added to the sums
pub chunk-added : (s new x : List ℤ) (f g : ℕ → ℤ) → new ≡ four (λ n. number_at s n +ℤ number_at x n) → x ≡ four f → ((n : ℕ) → n < 4 → f n ≡ g n) → new ≡ four (λ n. number_at s n +ℤ g n)
chunk-added s new x f g is x_is same =
    is ∙ four-same (λ n. number_at s n +ℤ number_at x n) (λ n. number_at s n +ℤ g n)
    (λ n below. ap (λ z. number_at s n +ℤ z) (at_four (λ m. number_at x m ≡ g m) (at 0 (omega arith) refl) (at 1 (omega arith) refl) (at 2 (omega arith) refl) (at 3 (omega arith) refl) n below))
  where
    at : (n : ℕ) → n < 4 → number_at (four f) n ≡ f n → number_at x n ≡ g n
    at n below here = ap (λ l. number_at l n) x_is ∙ (here ∙ same n below)

-- a total without its bias, as the code takes it off
pub unbiased_total : (t : ℤ) (f : ℕ → ℤ) (m bias : ℕ) → t ≡ total_below m (λ k. f k +ℤ pos bias) → unsigned_abs t ≤ 2 ^ 57 → m ≤ 2 ^ 24 → bias ≤ 2 ^ 32 → kept (kept t -ℤ kept (to_z w64 m *ℤ pos bias)) ≡ total_below m f
unbiased_total t f m bias is within few small =
    let most : m * bias ≤ 2 ^ 24 * 2 ^ 32 = mul-le-mul few small in
    let places : to_z w64 m ≡ pos m = omega (arith, ints) in
    let taken : kept (to_z w64 m *ℤ pos bias) ≡ pos (m * bias) = rw places (kept-is (pos (m * bias)) (2 ^ 56) (omega arith) (omega arith)) in
    let left : t -ℤ pos (m * bias) ≡ total_below m f = omega (arith, ints, unbiased f bias m) in
    rw (kept-is t (2 ^ 57) within (omega arith), taken, kept-is (t -ℤ pos (m * bias)) (2 ^ 58) (omega (arith, ints)) (omega arith)) left
