-- Sums over the numbers below a number.
use Rattle.std.proofs.Common.{◌≡◌, ℕ, zero, suc, ◌+◌, ◌*◌, ◌<◌, ◌≤◌, List, Bool, true, false, cond, length, take, get_or, map, refl, ap, sym, ◌∙◌, arith}
use Rattle.std.specs.List.{sum_by, range_with_len}
use Rattle.std.proofs.lemmas.List.{map-id, take_all}
use Rattle.std.proofs.lemmas.List.FromFn.{sum_by-map-range_with_len_more}
use Rattle.std.proofs.lemmas.List.Sums.{sum_by_more}

-- what a function gives at the numbers below a number, summed
abbrev pub sum_below : (ℕ → ℕ) → ℕ → ℕ
sum_below f zero = 0
sum_below f (suc n) = sum_below f n + f n

-- so it is summed over their list
sum_by-map-range : (f : ℕ → ℕ) (n : ℕ) → sum_by f (map (λ k. k) (range_with_len 0 n)) ≡ sum_below f n
sum_by-map-range f zero = refl
sum_by-map-range f (suc n) =
    let one_more : suc n ≡ n + 1 = omega arith in
    let same : 0 + n ≡ n = omega arith in
    ap (λ m. sum_by f (map (λ k. k) (range_with_len 0 m))) one_more
    ∙ sum_by-map-range_with_len_more f (λ k. k) 0 n n same
    ∙ ap (λ s. s + f n) (sum_by-map-range f n)

-- and so the list itself
pub sum_by-range : (f : ℕ → ℕ) (n : ℕ) → sum_by f (range_with_len 0 n) ≡ sum_below f n
sum_by-range f n = ap (sum_by f) (sym (map-id (range_with_len 0 n))) ∙ sum_by-map-range f n

-- the sum over a list, by its places
sum_by-take : (f : ℕ → ℕ) (xs : List ℕ) (n : ℕ) → n ≤ length xs → sum_by f (take n xs) ≡ sum_below (λ k. f (get_or xs k 0)) n
sum_by-take f xs zero h = refl
sum_by-take f xs (suc n) h =
    let one_more : suc n ≡ n + 1 = omega arith in
    ap (λ m. sum_by f (take m xs)) one_more
    ∙ sum_by_more f xs n 0 (omega arith)
    ∙ ap (λ s. s + f (get_or xs n 0)) (sum_by-take f xs n (omega arith))

-- of the whole list
pub sum_by-places : (f : ℕ → ℕ) (xs : List ℕ) → sum_by f xs ≡ sum_below (λ k. f (get_or xs k 0)) (length xs)
sum_by-places f xs = ap (sum_by f) (sym (take_all (length xs) xs (omega arith))) ∙ sum_by-take f xs (length xs) (omega arith)

-- two functions that agree there
pub sum_below-same : (f g : ℕ → ℕ) (n : ℕ) → ((k : ℕ) → k < n → f k ≡ g k) → sum_below f n ≡ sum_below g n
sum_below-same f g zero same = refl
sum_below-same f g (suc n) same =
    let before = sum_below-same f g n (λ k h. same k (omega arith)) in
    let here : f n ≡ g n = same n (omega arith) in
    omega arith

-- so many times one sum is at most two others
pub sum_below-le : (times : ℕ) (f g h : ℕ → ℕ) (n : ℕ) → ((k : ℕ) → k < n → times * f k ≤ g k + h k) → times * sum_below f n ≤ sum_below g n + sum_below h n
sum_below-le times f g h zero each = omega arith
sum_below-le times f g h (suc n) each =
    let before = sum_below-le times f g h n (λ k below. each k (omega arith)) in
    let here : times * f n ≤ g n + h n = each n (omega arith) in
    omega arith

-- two places for each number
pub sum_below-pairs : (f : ℕ → ℕ) (n : ℕ) → sum_below f (2 * n) ≡ sum_below (λ i. f (2 * i) + f (2 * i + 1)) n
sum_below-pairs f zero = refl
sum_below-pairs f (suc n) =
    let before = sum_below-pairs f n in
    let two_on : 2 * suc n ≡ suc (suc (2 * n)) = omega arith in
    let one_on : suc (2 * n) ≡ 2 * n + 1 = omega arith in
    rw (two_on, one_on) (omega arith)

-- what counts only where a test holds
pub cond_same : (b : Bool) (x y : ℕ) → (b ≡ true → x ≡ y) → cond b x 0 ≡ cond b y 0
cond_same true x y same = same refl
cond_same false x y same = refl
