use Rattle.std.proofs.Common.{◌≡◌, ℕ, ◌+◌, ◌-◌, ◌*◌, ◌/◌, ◌^◌, List, [], ◌∷◌, map, refl, rules, arith}
use Rattle.fixed_complex.specs.Numbers.{number_at}
use Rattle.integer_laws.proofs.FewPlaces.{at_eight}
use Rattle.butterfly64.proofs.RowLanes.{row-re, row-im, shuffled}
use Rattle.butterfly64.proofs.stages.two_apart.Goals as goal

pub returns : goal.returns
returns c =
    let a = c.args.a.now in
    let b = c.args.b.now in
    let lower : List ℕ = 0 ∷ 1 ∷ 4 ∷ 5 ∷ 8 ∷ 9 ∷ 12 ∷ 13 ∷ [] in
    let upper : List ℕ = 2 ∷ 3 ∷ 6 ∷ 7 ∷ 10 ∷ 11 ∷ 14 ∷ 15 ∷ [] in
    let are = row-re (2 ^ 30 - 2 ^ 12) (2 ^ 31 - 1) a (search rules) (omega arith) c.requires.a in
    let bre = row-re (2 ^ 30 - 2 ^ 12) (2 ^ 31 - 1) b (search rules) (omega arith) c.requires.b in
    let aim = row-im (2 ^ 30 - 2 ^ 12) (2 ^ 31 - 1) a (search rules) (omega arith) c.requires.a in
    let bim = row-im (2 ^ 30 - 2 ^ 12) (2 ^ 31 - 1) b (search rules) (omega arith) c.requires.b in
    record {
      lower = shuffled lower a b (λ l. l + 2 * (l / 2)) _ _ (search rules) (search rules) are bre aim bim refl refl (λ f. at_eight (λ l. number_at (map f lower) l ≡ f (l + 2 * (l / 2))) refl refl refl refl refl refl refl refl);
      upper = shuffled upper a b (λ l. l + 2 * (l / 2) + 2) _ _ (search rules) (search rules) are bre aim bim refl refl (λ f. at_eight (λ l. number_at (map f upper) l ≡ f (l + 2 * (l / 2) + 2)) refl refl refl refl refl refl refl refl);
    }
