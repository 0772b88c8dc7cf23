use Rattle.std.proofs.Common.{[], ◌∷◌, refl, rules, ◌^◌, ◌-◌}
use Rattle.butterfly64.specs.Lanes.{is_low, lane}
use Rattle.butterfly64.proofs.LaneOps.{picked_of_two, pair_by}
use Rattle.fixed_complex.proofs.Numbers.{within_eight}
use Rattle.butterfly64.proofs.lanes.mixed_by_one.Goals as goal

pub returns : goal.returns
returns c = λ l h.
    let re = picked_of_two (0 ∷ 9 ∷ 2 ∷ 11 ∷ 4 ∷ 13 ∷ 6 ∷ 15 ∷ []) c.args.x.now.re c.args.y.now.re (is_low 0) refl (search rules) (search rules)
    (within_eight (2 ^ 62 - 1) c.args.x.now.re (search rules) (λ l h. (c.requires.x.each l h).re)) (within_eight (2 ^ 62 - 1) c.args.y.now.re (search rules) (λ l h. (c.requires.y.each l h).re)) refl l h in
    let im = picked_of_two (0 ∷ 9 ∷ 2 ∷ 11 ∷ 4 ∷ 13 ∷ 6 ∷ 15 ∷ []) c.args.x.now.im c.args.y.now.im (is_low 0) refl (search rules) (search rules)
    (within_eight (2 ^ 62 - 1) c.args.x.now.im (search rules) (λ l h. (c.requires.x.each l h).im)) (within_eight (2 ^ 62 - 1) c.args.y.now.im (search rules) (λ l h. (c.requires.y.each l h).im)) refl l h in
    pair_by (is_low 0 l) (lane c.args.x.now l) (lane c.args.y.now l) _ _ re im
