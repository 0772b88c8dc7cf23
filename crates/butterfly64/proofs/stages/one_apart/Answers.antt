use Rattle.std.proofs.Common.{◌≡◌, ℕ, ◌+◌, ◌-◌, ◌*◌, ◌/◌, ◌^◌, List, [], ◌∷◌, map, refl, rules, arith}
use Rattle.fixed_complex.specs.Numbers.{number_at}
use Rattle.integer_laws.proofs.FewPlaces.{at_eight}
use Rattle.butterfly64.proofs.RowLanes.{row-re, row-im, shuffled}
use Rattle.butterfly64.proofs.stages.one_apart.Goals as goal

pub returns : goal.returns
returns c =
    let a = c.args.a.now in
    let b = c.args.b.now in
    let lower : List ℕ = 0 ∷ 2 ∷ 4 ∷ 6 ∷ 8 ∷ 10 ∷ 12 ∷ 14 ∷ [] in
    let upper : List ℕ = 1 ∷ 3 ∷ 5 ∷ 7 ∷ 9 ∷ 11 ∷ 13 ∷ 15 ∷ [] in
    let are = row-re (2 ^ 30 - 2 ^ 12) (2 ^ 31 - 1) a (search rules) (omega arith) c.requires.a in
    let bre = row-re (2 ^ 30 - 2 ^ 12) (2 ^ 31 - 1) b (search rules) (omega arith) c.requires.b in
    let aim = row-im (2 ^ 30 - 2 ^ 12) (2 ^ 31 - 1) a (search rules) (omega arith) c.requires.a in
    let bim = row-im (2 ^ 30 - 2 ^ 12) (2 ^ 31 - 1) b (search rules) (omega arith) c.requires.b in
    record {
      lower = shuffled lower a b (λ l. l + 1 * (l / 1)) _ _ (search rules) (search rules) are bre aim bim refl refl (λ f. at_eight (λ l. number_at (map f lower) l ≡ f (l + 1 * (l / 1))) refl refl refl refl refl refl refl refl);
      upper = shuffled upper a b (λ l. l + 1 * (l / 1) + 1) _ _ (search rules) (search rules) are bre aim bim refl refl (λ f. at_eight (λ l. number_at (map f upper) l ≡ f (l + 1 * (l / 1) + 1)) refl refl refl refl refl refl refl refl);
    }
