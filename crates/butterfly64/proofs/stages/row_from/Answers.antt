use Rattle.std.proofs.Common.{◌≡◌, ℕ, ◌+◌, ◌-◌, ◌*◌, ◌^◌, ◌∙◌, List, [], ◌∷◌, map, refl, ap, sym, subst, rules, arith}
use Rattle.fixed_complex.specs.Numbers.{NumbersWithin, number_at}
use Rattle.fixed_complex.specs.PairLists.{entry}
use Rattle.integer_laws.proofs.FewPlaces.{at_eight}
use Rattle.butterfly64.proofs.RowLanes.{second_words}
use Rattle.butterfly64.proofs.stages.row_from.Goals as goal

pub returns : goal.returns
returns c = λ l lt.
    let x = c.args.x.now in
    let place = c.args.place in
    let low = c.narrowed-low.result in
    let high = c.narrowed-high.result in
    let low_is = c.narrowed-low.ensures in
    let high_is = c.narrowed-high.ensures in
    let low_within = subst (NumbersWithin (2 ^ 31 - 1)) (sym low_is) c.components.ensures.within in
    let high_within = subst (NumbersWithin (2 ^ 31 - 1)) (sym high_is) c.components-2.ensures.within in
    let evens : List ℕ = 0 ∷ 2 ∷ 4 ∷ 6 ∷ 8 ∷ 10 ∷ 12 ∷ 14 ∷ [] in
    let odds : List ℕ = 1 ∷ 3 ∷ 5 ∷ 7 ∷ 9 ∷ 11 ∷ 13 ∷ 15 ∷ [] in
    let even : (k : ℕ) → 2 * k + 0 ≡ 2 * k = λ k. omega arith in
    let later : (k : ℕ) → entry x (place + 4 + k) ≡ entry x (place + (4 + k)) = λ k. let e : place + 4 + k ≡ place + (4 + k) = omega arith in ap (entry x) e in
    let re = second_words evens low high _ 0 (λ k. (entry x (place + k)).re) (omega arith) (search rules) low_within high_within refl (λ g. at_eight (λ l. number_at (map g evens) l ≡ g (2 * l + 0)) refl refl refl refl refl refl refl refl)
    (λ k lt. ap (number_at low) (even k) ∙ ap (λ r. number_at r (2 * k)) low_is ∙ c.components.ensures.re k lt)
    (λ k lt. ap (number_at high) (even k) ∙ ap (λ r. number_at r (2 * k)) high_is ∙ c.components-2.ensures.re k lt ∙ ap (λ z. z.re) (later k)) l lt in
    let im = second_words odds low high _ 1 (λ k. (entry x (place + k)).im) (omega arith) (search rules) low_within high_within refl (λ g. at_eight (λ l. number_at (map g odds) l ≡ g (2 * l + 1)) refl refl refl refl refl refl refl refl)
    (λ k lt. ap (λ r. number_at r (2 * k + 1)) low_is ∙ c.components.ensures.im k lt)
    (λ k lt. ap (λ r. number_at r (2 * k + 1)) high_is ∙ c.components-2.ensures.im k lt ∙ ap (λ z. z.im) (later k)) l lt in
    λ i. record { re = re i; im = im i }
