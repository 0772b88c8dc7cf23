use Rattle.std.proofs.Common.{◌≡◌, ℕ, ◌+◌, ◌*◌, ◌<◌, ◌∙◌, [], ◌∷◌, ap, w64, to_z, of_z, arith}
use Rattle.std.specs.Prelude.{ℤ}
use Rattle.std.proofs.lemmas.Int.{ints}
use Rattle.fixed_complex.specs.Numbers.{number_at}
use Rattle.fixed_complex.specs.PairLists.{entry}
use Rattle.integer_laws.proofs.FewPlaces.{at_four}
use Rattle.butterfly64.proofs.stages.components.Goals as goal

-- the first components of four pairs
firsts : (f : ℕ → ℤ) (a b c d e g h i : ℤ) → a ≡ f 0 → c ≡ f 1 → e ≡ f 2 → h ≡ f 3 → (k : ℕ) → k < 4 → number_at (a ∷ b ∷ c ∷ d ∷ e ∷ g ∷ h ∷ i ∷ []) (2 * k) ≡ f k
firsts f a b c d e g h i = at_four (λ k. number_at (a ∷ b ∷ c ∷ d ∷ e ∷ g ∷ h ∷ i ∷ []) (2 * k) ≡ f k)

pub returns-clause-re : goal.returns-clause-re
returns-clause-re c =
    let x = c.args.x.now in
    let place = c.args.place in
    let first : place ≡ place + 0 = omega arith in
    let w0 = c.requires.words.each place (omega arith) in
    let w1 = c.requires.words.each (place + 1) (omega arith) in
    let w2 = c.requires.words.each (place + 2) (omega arith) in
    let w3 = c.requires.words.each (place + 3) (omega arith) in
    let e0 : to_z w64 (of_z w64 (entry x place).re) ≡ (entry x place).re = omega (arith, ints, w0.re) in
    let e1 : to_z w64 (of_z w64 (entry x (place + 1)).re) ≡ (entry x (place + 1)).re = omega (arith, ints, w1.re) in
    let e2 : to_z w64 (of_z w64 (entry x (place + 2)).re) ≡ (entry x (place + 2)).re = omega (arith, ints, w2.re) in
    let e3 : to_z w64 (of_z w64 (entry x (place + 3)).re) ≡ (entry x (place + 3)).re = omega (arith, ints, w3.re) in
    firsts (λ k. (entry x (place + k)).re) _ _ _ _ _ _ _ _ (e0 ∙ ap (λ m. (entry x m).re) first) e1 e2 e3
