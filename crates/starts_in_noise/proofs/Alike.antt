-- Samples match where the energy of their differences from the template is small.
use Rattle.std.proofs.Common.{◌≡◌, ℕ, suc, ◌+◌, ◌*◌, ◌<◌, ◌≤◌, Bool, true, false, T, List, [], ◌∷◌, length, refl, ap, ◌∙◌, arith, ℤ, pos, ◌+ℤ◌, ◌-ℤ◌, ◌*ℤ◌, neg_ℤ, ◌≤ℤ◌, int_le, unsigned_abs}
use Rattle.integer_laws.specs.Size.{sum_of_squares}
use Rattle.integer_laws.proofs.Order.{+ℤ-≤ℤ, le_of_difference, pos-le, product_not_negative, square_not_negative, sum_not_negative, ≤ℤ_of_pos-*ℤ, ≤ℤ_trans}
use Rattle.integer_laws.proofs.Ring.{ring, negated, number, square, ◌⊕◌, ◌⊖◌, ◌⊗◌, ◌≗◌}
use Rattle.integer_laws.proofs.Sizes.{size_of_parts_sum}
use Rattle.fixed_complex.specs.declared.Sample.{Sample}
use Rattle.fixed_complex.specs.Pairs.{times}
use Rattle.fixed_complex.specs.Samples.{sample_at}
use Rattle.lane_kernels.specs.Kernels.{dot_of, energy_of}

of_test : (b : Bool) → T b → b ≡ true
of_test true h = refl
of_test false h = absurd h

-- ---- the energy of the differences
pub apart : List Sample → List Sample → ℤ
apart [] ys = pos 0
apart (x ∷ xs) [] = pos 0
apart (x ∷ xs) (y ∷ ys) = sum_of_squares (x.i -ℤ y.i) (x.q -ℤ y.q) +ℤ apart xs ys

head_law : (x u y v e c f : ℤ) → (x *ℤ x +ℤ u *ℤ u +ℤ e) -ℤ pos 2 *ℤ ((x *ℤ y -ℤ u *ℤ neg_ℤ v) +ℤ c) +ℤ (y *ℤ y +ℤ v *ℤ v +ℤ f) ≡ sum_of_squares (x -ℤ y) (u -ℤ v) +ℤ (e -ℤ pos 2 *ℤ c +ℤ f)
head_law = ring 7 (λ x u y v e c f. (x ⊗ x ⊕ u ⊗ u ⊕ e) ⊖ number (pos 2) ⊗ ((x ⊗ y ⊖ u ⊗ negated v) ⊕ c) ⊕ (y ⊗ y ⊕ v ⊗ v ⊕ f) ≗ (square (x ⊖ y) ⊕ square (u ⊖ v)) ⊕ (e ⊖ number (pos 2) ⊗ c ⊕ f)) refl

pub energies_apart : (xs ys : List Sample) → length xs ≡ length ys → energy_of xs -ℤ pos 2 *ℤ (dot_of xs ys).re +ℤ energy_of ys ≡ apart xs ys
unfolding energy_of dot_of apart times
energies_apart [] [] long = refl
energies_apart [] (y ∷ ys) long = absurd (omega (arith, long))
energies_apart (x ∷ xs) [] long = absurd (omega (arith, long))
energies_apart (x ∷ xs) (y ∷ ys) long =
    head_law x.i x.q y.i y.q (energy_of xs) (dot_of xs ys).re (energy_of ys)
    ∙ ap (λ rest. sum_of_squares (x.i -ℤ y.i) (x.q -ℤ y.q) +ℤ rest) (energies_apart xs ys (omega (arith, long)))

-- samples of one list are within a bound of those of another
pub record AreClose (bound : ℕ) (xs ys : List Sample) : Type 0 where
  pub long : length xs ≡ length ys
  pub i : (n : ℕ) → n < length xs → unsigned_abs ((sample_at xs n).i -ℤ (sample_at ys n).i) ≤ bound
  pub q : (n : ℕ) → n < length xs → unsigned_abs ((sample_at xs n).q -ℤ (sample_at ys n).q) ≤ bound

pub apart-close : (bound : ℕ) (xs ys : List Sample) → AreClose bound xs ys → apart xs ys ≤ℤ pos (length xs * ((bound + bound) * (bound + bound)))
unfolding apart
apart-close bound [] ys close = pos-le 0 _ (omega arith)
apart-close bound (x ∷ xs) [] close = pos-le 0 _ (omega arith)
apart-close bound (x ∷ xs) (y ∷ ys) close =
    let first = size_of_parts_sum (x.i -ℤ y.i) (x.q -ℤ y.q) bound bound (close.i 0 (omega arith)) (close.q 0 (omega arith)) in
    let rest = apart-close bound xs ys (record {
      long = omega (arith, close.long);
      i = λ n lt. close.i (suc n) (omega arith);
      q = λ n lt. close.q (suc n) (omega arith);
    }) in
    let most : (bound + bound) * (bound + bound) + length xs * ((bound + bound) * (bound + bound)) ≤ length (x ∷ xs) * ((bound + bound) * (bound + bound)) = omega arith in
    ≤ℤ_trans _ _ _ (+ℤ-≤ℤ _ _ _ _ first rest) (pos-le _ _ most)

-- ---- the match
match_law : (E e a b : ℤ) → pos 5 *ℤ (pos 5 *ℤ sum_of_squares a b) -ℤ pos 5 *ℤ (pos 4 *ℤ E *ℤ e) ≡ (pos 5 *ℤ a -ℤ pos 4 *ℤ E) *ℤ (pos 5 *ℤ a -ℤ pos 4 *ℤ E) +ℤ (pos 5 *ℤ b *ℤ (pos 5 *ℤ b) +ℤ pos 4 *ℤ E *ℤ (E -ℤ pos 5 *ℤ (e -ℤ pos 2 *ℤ a +ℤ E)))
match_law = ring 4 (λ E e a b. number (pos 5) ⊗ (number (pos 5) ⊗ (square a ⊕ square b)) ⊖ number (pos 5) ⊗ (number (pos 4) ⊗ E ⊗ e) ≗ (number (pos 5) ⊗ a ⊖ number (pos 4) ⊗ E) ⊗ (number (pos 5) ⊗ a ⊖ number (pos 4) ⊗ E) ⊕ (number (pos 5) ⊗ b ⊗ (number (pos 5) ⊗ b) ⊕ number (pos 4) ⊗ E ⊗ (E ⊖ number (pos 5) ⊗ (e ⊖ number (pos 2) ⊗ a ⊕ E)))) refl

pub match_by_energies : (E e a b : ℤ) → pos 0 ≤ℤ E → pos 0 ≤ℤ (E -ℤ pos 5 *ℤ (e -ℤ pos 2 *ℤ a +ℤ E)) → int_le (pos 4 *ℤ E *ℤ e) (pos 5 *ℤ sum_of_squares a b) ≡ true
match_by_energies E e a b above near =
    let last = product_not_negative (pos 4 *ℤ E) _ (product_not_negative (pos 4) E (pos-le 0 4 (omega arith)) above) near in
    let whole = sum_not_negative _ _ (square_not_negative (pos 5 *ℤ a -ℤ pos 4 *ℤ E)) (sum_not_negative _ _ (square_not_negative (pos 5 *ℤ b)) last) in
    let five : (pos 5 *ℤ (pos 4 *ℤ E *ℤ e)) ≤ℤ (pos 5 *ℤ (pos 5 *ℤ sum_of_squares a b)) = le_of_difference _ _ _ (match_law E e a b) whole in
    of_test (int_le (pos 4 *ℤ E *ℤ e) (pos 5 *ℤ sum_of_squares a b)) (≤ℤ_of_pos-*ℤ 5 (pos 4 *ℤ E *ℤ e) (pos 5 *ℤ sum_of_squares a b) (omega arith) five).le
