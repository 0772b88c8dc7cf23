use Rattle.std.proofs.Common.{◌+◌, [], ◌∷◌, refl, rules, ◌^◌, ◌-◌}
use Rattle.butterfly64.specs.Lanes.{low_place}
use Rattle.butterfly64.proofs.LaneOps.{picked_of_one}
use Rattle.fixed_complex.proofs.Numbers.{within_eight}
use Rattle.butterfly64.proofs.lanes.four_apart.Goals as goal

pub returns-clause-low : goal.returns-clause-low
returns-clause-low c = λ l h.
    let re = picked_of_one (0 ∷ 1 ∷ 2 ∷ 3 ∷ 0 ∷ 1 ∷ 2 ∷ 3 ∷ []) c.args.x.now.re (low_place 2) refl (search rules) (within_eight (2 ^ 62 - 1) c.args.x.now.re (search rules) (λ l h. (c.requires.each l h).re)) refl l h in
    let im = picked_of_one (0 ∷ 1 ∷ 2 ∷ 3 ∷ 0 ∷ 1 ∷ 2 ∷ 3 ∷ []) c.args.x.now.im (low_place 2) refl (search rules) (within_eight (2 ^ 62 - 1) c.args.x.now.im (search rules) (λ l h. (c.requires.each l h).im)) refl l h in
    λ i. record { re = re i; im = im i }

pub returns-clause-high : goal.returns-clause-high
returns-clause-high c = λ l h.
    let re = picked_of_one (4 ∷ 5 ∷ 6 ∷ 7 ∷ 4 ∷ 5 ∷ 6 ∷ 7 ∷ []) c.args.x.now.re (λ l. low_place 2 l + 4) refl (search rules) (within_eight (2 ^ 62 - 1) c.args.x.now.re (search rules) (λ l h. (c.requires.each l h).re)) refl l h in
    let im = picked_of_one (4 ∷ 5 ∷ 6 ∷ 7 ∷ 4 ∷ 5 ∷ 6 ∷ 7 ∷ []) c.args.x.now.im (λ l. low_place 2 l + 4) refl (search rules) (within_eight (2 ^ 62 - 1) c.args.x.now.im (search rules) (λ l h. (c.requires.each l h).im)) refl l h in
    λ i. record { re = re i; im = im i }
