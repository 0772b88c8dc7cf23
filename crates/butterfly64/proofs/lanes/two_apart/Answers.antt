use Rattle.std.proofs.Common.{◌+◌, [], ◌∷◌, refl, rules, ◌^◌, ◌-◌}
use Rattle.butterfly64.specs.Lanes.{low_place}
use Rattle.butterfly64.proofs.LaneOps.{picked_of_one}
use Rattle.fixed_complex.proofs.Numbers.{within_eight}
use Rattle.butterfly64.proofs.lanes.two_apart.Goals as goal

pub returns-clause-low : goal.returns-clause-low
returns-clause-low c = λ l h.
    let re = picked_of_one (0 ∷ 1 ∷ 0 ∷ 1 ∷ 4 ∷ 5 ∷ 4 ∷ 5 ∷ []) c.args.x.now.re (low_place 1) refl (search rules) (within_eight (2 ^ 62 - 1) c.args.x.now.re (search rules) (λ l h. (c.requires.each l h).re)) refl l h in
    let im = picked_of_one (0 ∷ 1 ∷ 0 ∷ 1 ∷ 4 ∷ 5 ∷ 4 ∷ 5 ∷ []) c.args.x.now.im (low_place 1) refl (search rules) (within_eight (2 ^ 62 - 1) c.args.x.now.im (search rules) (λ l h. (c.requires.each l h).im)) refl l h in
    λ i. record { re = re i; im = im i }

pub returns-clause-high : goal.returns-clause-high
returns-clause-high c = λ l h.
    let re = picked_of_one (2 ∷ 3 ∷ 2 ∷ 3 ∷ 6 ∷ 7 ∷ 6 ∷ 7 ∷ []) c.args.x.now.re (λ l. low_place 1 l + 2) refl (search rules) (within_eight (2 ^ 62 - 1) c.args.x.now.re (search rules) (λ l h. (c.requires.each l h).re)) refl l h in
    let im = picked_of_one (2 ∷ 3 ∷ 2 ∷ 3 ∷ 6 ∷ 7 ∷ 6 ∷ 7 ∷ []) c.args.x.now.im (λ l. low_place 1 l + 2) refl (search rules) (within_eight (2 ^ 62 - 1) c.args.x.now.im (search rules) (λ l h. (c.requires.each l h).im)) refl l h in
    λ i. record { re = re i; im = im i }
