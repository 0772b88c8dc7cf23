-- Sums of pairs over places, and identities of sums and products.
use Rattle.std.proofs.Common.{◌≡◌, ℕ, zero, suc, ◌+◌, ◌*◌, refl, ap, sym, ◌∙◌, arith, ◌<◌}
use Rattle.std.specs.Prelude.{ℤ, pos, ◌+ℤ◌, ◌-ℤ◌, ◌*ℤ◌}
use Rattle.std.proofs.Math.IntN.{*ℤ-zero, +ℤ_idr, -ℤ-+ℤ_cancel}
use Rattle.std.proofs.lemmas.Int.{ints}
use Rattle.fixed_complex.specs.declared.Cx.{Cx}
use Rattle.fixed_complex.specs.Laws.{sum_below}
use Rattle.fixed_complex.specs.Pairs.{IsOfSize, IsWithin, zero_pair, plus, minus, multiple, times}
use Rattle.integer_laws.proofs.Ring.{ring, number, ◌⊕◌, ◌⊖◌, ◌⊗◌, ◌≗◌}
use Rattle.integer_laws.proofs.Order.{pos-le}
use Rattle.integer_laws.proofs.Products.{*ℤ-+ℤ}
use Rattle.fixed_complex.proofs.PairSizes.{wider, size-plus}
use Rattle.fixed_complex.proofs.Pairs.{same_parts}

-- ---- identities of pairs
four_sums : (a b c d : Cx) → plus (plus (plus a b) c) d ≡ plus (plus a c) (plus b d)
four_sums a b c d = same_parts _ _ (law a.re b.re c.re d.re) (law a.im b.im c.im d.im)
  where
    law : (a b c d : ℤ) → a +ℤ b +ℤ c +ℤ d ≡ (a +ℤ c) +ℤ (b +ℤ d)
    law = ring 4 (λ a b c d. a ⊕ b ⊕ c ⊕ d ≗ (a ⊕ c) ⊕ (b ⊕ d)) refl

sum_of_differences : (a b c d : Cx) → plus (minus a b) (minus c d) ≡ minus (plus a c) (plus b d)
sum_of_differences a b c d = same_parts _ _ (law a.re b.re c.re d.re) (law a.im b.im c.im d.im)
  where
    law : (a b c d : ℤ) → (a -ℤ b) +ℤ (c -ℤ d) ≡ (a +ℤ c) -ℤ (b +ℤ d)
    law = ring 4 (λ a b c d. (a ⊖ b) ⊕ (c ⊖ d) ≗ (a ⊕ c) ⊖ (b ⊕ d)) refl

pub minus_plus : (a b : Cx) → plus (minus a b) b ≡ a
minus_plus a b = same_parts _ _ (-ℤ-+ℤ_cancel a.re b.re) (-ℤ-+ℤ_cancel a.im b.im)

pub minus_minus : (a b : Cx) → minus a (minus a b) ≡ b
minus_minus a b = same_parts _ _ (law a.re b.re) (law a.im b.im)
  where
    law : (a b : ℤ) → a -ℤ (a -ℤ b) ≡ b
    law = ring 2 (λ a b. a ⊖ (a ⊖ b) ≗ b) refl

pub plus_zero : (a : Cx) → plus a zero_pair ≡ a
plus_zero a = same_parts _ _ (+ℤ_idr a.re) (+ℤ_idr a.im)

pub zero_plus : (a : Cx) → plus zero_pair a ≡ a
zero_plus a = same_parts _ _ (law a.re) (law a.im)
  where
    law : (a : ℤ) → pos 0 +ℤ a ≡ a
    law = ring 1 (λ a. number (pos 0) ⊕ a ≗ a) refl

times_plus : (w a b : Cx) → times w (plus a b) ≡ plus (times w a) (times w b)
unfolding times
times_plus w a b = same_parts _ _ (re w.re w.im a.re a.im b.re b.im) (im w.re w.im a.re a.im b.re b.im)
  where
    re : (p q a b c d : ℤ) → p *ℤ (a +ℤ c) -ℤ q *ℤ (b +ℤ d) ≡ (p *ℤ a -ℤ q *ℤ b) +ℤ (p *ℤ c -ℤ q *ℤ d)
    re = ring 6 (λ p q a b c d. p ⊗ (a ⊕ c) ⊖ q ⊗ (b ⊕ d) ≗ (p ⊗ a ⊖ q ⊗ b) ⊕ (p ⊗ c ⊖ q ⊗ d)) refl

    im : (p q a b c d : ℤ) → p *ℤ (b +ℤ d) +ℤ q *ℤ (a +ℤ c) ≡ (p *ℤ b +ℤ q *ℤ a) +ℤ (p *ℤ d +ℤ q *ℤ c)
    im = ring 6 (λ p q a b c d. p ⊗ (b ⊕ d) ⊕ q ⊗ (a ⊕ c) ≗ (p ⊗ b ⊕ q ⊗ a) ⊕ (p ⊗ d ⊕ q ⊗ c)) refl

pub times_zero : (w : Cx) → times w zero_pair ≡ zero_pair
unfolding times
times_zero w = same_parts _ _ (re w.re w.im) (im w.re w.im)
  where
    re : (p q : ℤ) → p *ℤ pos 0 -ℤ q *ℤ pos 0 ≡ pos 0
    re = ring 2 (λ p q. p ⊗ number (pos 0) ⊖ q ⊗ number (pos 0) ≗ number (pos 0)) refl

    im : (p q : ℤ) → p *ℤ pos 0 +ℤ q *ℤ pos 0 ≡ pos 0
    im = ring 2 (λ p q. p ⊗ number (pos 0) ⊕ q ⊗ number (pos 0) ≗ number (pos 0)) refl

pub zero_times : (w : Cx) → times zero_pair w ≡ zero_pair
unfolding times
zero_times w = same_parts _ _ (re w.re w.im) (im w.re w.im)
  where
    re : (p q : ℤ) → pos 0 *ℤ p -ℤ pos 0 *ℤ q ≡ pos 0
    re = ring 2 (λ p q. number (pos 0) ⊗ p ⊖ number (pos 0) ⊗ q ≗ number (pos 0)) refl

    im : (p q : ℤ) → pos 0 *ℤ q +ℤ pos 0 *ℤ p ≡ pos 0
    im = ring 2 (λ p q. number (pos 0) ⊗ q ⊕ number (pos 0) ⊗ p ≗ number (pos 0)) refl

multiple_plus : (c : ℤ) (a b : Cx) → multiple c (plus a b) ≡ plus (multiple c a) (multiple c b)
multiple_plus c a b = same_parts _ _ (*ℤ-+ℤ c a.re b.re) (*ℤ-+ℤ c a.im b.im)

pub multiple_zero : (c : ℤ) → multiple c zero_pair ≡ zero_pair
multiple_zero c = same_parts _ _ (*ℤ-zero c) (*ℤ-zero c)

-- ---- sums over places
-- a sum that grows place by place, and a bound on its components
pub sum-none : (f : ℕ → Cx) → zero_pair ≡ sum_below 0 f
unfolding sum_below
sum-none f = refl

pub sum-more : (f : ℕ → Cx) (n : ℕ) (before after added : Cx) → before ≡ sum_below n f → added ≡ f n → after ≡ plus before added → after ≡ sum_below (n + 1) f
unfolding sum_below
sum-more f n before after added is new sum =
    let next : n + 1 ≡ suc n = omega arith in
    sum ∙ ap (λ a. plus before a) new ∙ ap (λ b. plus b (f n)) is ∙ ap (λ m. sum_below m f) (sym next)

pub within-more : (bound n : ℕ) (a b : Cx) → IsWithin (n * bound) a → IsWithin bound b → IsWithin ((n + 1) * bound) (plus a b)
within-more bound n a b p q = record {
  re = omega (arith, ints, p.re, q.re);
  im = omega (arith, ints, p.im, q.im);
}

pub same_sums : (f g : ℕ → Cx) → ((m : ℕ) → f m ≡ g m) → (n : ℕ) → sum_below n f ≡ sum_below n g
same_sums f g h n = ap (sum_below n) (λ i m. h m i)

pub sum-local : (k : ℕ) (f g : ℕ → Cx) → ((m : ℕ) → m < k → f m ≡ g m) → sum_below k f ≡ sum_below k g
unfolding sum_below
sum-local zero f g same = refl
sum-local (suc k) f g same =
    ap (λ s. plus s (f k)) (sum-local k f g (λ m lt. same m (omega arith))) ∙ ap (plus (sum_below k g)) (same k (omega arith))

pub sum_even_odd : (n : ℕ) (f : ℕ → Cx) → sum_below (2 * n) f ≡ plus (sum_below n (λ m. f (2 * m))) (sum_below n (λ m. f (2 * m + 1)))
unfolding sum_below
sum_even_odd zero f = refl
sum_even_odd (suc n) f =
    let places : 2 * suc n ≡ suc (suc (2 * n)) = omega arith in
    let odd : suc (2 * n) ≡ 2 * n + 1 = omega arith in
    rw (places, sum_even_odd n f, odd) (four_sums (sum_below n (λ m. f (2 * m))) (sum_below n (λ m. f (2 * m + 1))) (f (2 * n)) (f (2 * n + 1)))

pub times_sum : (w : Cx) (n : ℕ) (f : ℕ → Cx) → times w (sum_below n f) ≡ sum_below n (λ m. times w (f m))
unfolding sum_below
times_sum w zero f = times_zero w
times_sum w (suc n) f = times_plus w (sum_below n f) (f n) ∙ ap (λ s. plus s (times w (f n))) (times_sum w n f)

pub multiple_sum : (c : ℤ) (n : ℕ) (f : ℕ → Cx) → multiple c (sum_below n f) ≡ sum_below n (λ m. multiple c (f m))
unfolding sum_below
multiple_sum c zero f = multiple_zero c
multiple_sum c (suc n) f = multiple_plus c (sum_below n f) (f n) ∙ ap (λ s. plus s (multiple c (f n))) (multiple_sum c n f)

pub minus_sums : (n : ℕ) (f g : ℕ → Cx) → minus (sum_below n f) (sum_below n g) ≡ sum_below n (λ m. minus (f m) (g m))
unfolding sum_below
minus_sums zero f g = refl
minus_sums (suc n) f g = sym (sum_of_differences (sum_below n f) (sum_below n g) (f n) (g n)) ∙ ap (λ s. plus s (minus (f n) (g n))) (minus_sums n f g)

pub size-sum : (n b : ℕ) (f : ℕ → Cx) → ((m : ℕ) → m < n → IsOfSize b (f m)) → IsOfSize (n * b) (sum_below n f)
unfolding sum_below
size-sum zero b f h = record { size = pos-le 0 (zero * b * (zero * b)) (omega arith) }
size-sum (suc n) b f h =
    wider (n * b + b) (suc n * b) _ (omega arith) (size-plus (n * b) b (sum_below n f) (f n) (size-sum n b f (λ m lt. h m (omega arith))) (h n (omega arith)))

pub plus_sums : (n : ℕ) (f g : ℕ → Cx) → plus (sum_below n f) (sum_below n g) ≡ sum_below n (λ m. plus (f m) (g m))
unfolding sum_below
plus_sums zero f g = refl
plus_sums (suc n) f g = regrouped (sum_below n f) (f n) (sum_below n g) (g n) ∙ ap (λ s. plus s (plus (f n) (g n))) (plus_sums n f g)
  where
    law : (a b c d : ℤ) → (a +ℤ b) +ℤ (c +ℤ d) ≡ (a +ℤ c) +ℤ (b +ℤ d)
    law = ring 4 (λ a b c d. (a ⊕ b) ⊕ (c ⊕ d) ≗ (a ⊕ c) ⊕ (b ⊕ d)) refl

    regrouped : (a b c d : Cx) → plus (plus a b) (plus c d) ≡ plus (plus a c) (plus b d)
    regrouped a b c d = same_parts _ _ (law a.re b.re c.re d.re) (law a.im b.im c.im d.im)

-- a sum over the first places and those behind
pub sum_halves : (n k : ℕ) (f : ℕ → Cx) → sum_below (n + k) f ≡ plus (sum_below n f) (sum_below k (λ m. f (m + n)))
unfolding sum_below
sum_halves n zero f = let e : n + 0 ≡ n = omega arith in rw e (sym (plus_zero (sum_below n f)))
sum_halves n (suc k) f =
    let e : n + suc k ≡ suc (n + k) = omega arith in
    let last : n + k ≡ k + n = omega arith in
    rw (e, sum_halves n k f, last) (assoc (sum_below n f) (sum_below k (λ m. f (m + n))) (f (k + n)))
  where
    law : (a b c : ℤ) → a +ℤ b +ℤ c ≡ a +ℤ (b +ℤ c)
    law = ring 3 (λ a b c. a ⊕ b ⊕ c ≗ a ⊕ (b ⊕ c)) refl

    assoc : (a b c : Cx) → plus (plus a b) c ≡ plus a (plus b c)
    assoc a b c = same_parts _ _ (law a.re b.re c.re) (law a.im b.im c.im)
