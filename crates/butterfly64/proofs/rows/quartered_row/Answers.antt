use Rattle.std.proofs.Common.{◌≡◌, ℕ, ◌*◌, ◌/◌, ◌-◌, ◌^◌, ◌<◌, List, replicate, refl, ap, sym, ◌∙◌, rules, arith}
use Rattle.std.specs.Prelude.{ℤ, pos, neg_ℤ, ◌-ℤ◌}
use Rattle.std.proofs.lemmas.Int.{ints}
use Rattle.fixed_complex.specs.Numbers.{number_at}
use Rattle.fixed_complex.proofs.Numbers.{within_eight}
use Rattle.integer_laws.proofs.FewPlaces.{at_eight}
use Rattle.fixed_complex.specs.Pairs.{scaled_product}
use Rattle.fixed_complex.specs.Turns.{turn_at}
use Rattle.butterfly64.specs.Rows.{row_lane}
use Rattle.butterfly64.proofs.RowLanes.{row-im, row-re}
use Rattle.butterfly64.proofs.RowStages.{turned_by_a_quarter, turned_by_nothing}
use Rattle.butterfly64.proofs.rows.quartered_row.Goals as goal

-- nothing in eight lanes, less a row's second components
abbrev zeros : List ℤ
zeros = replicate 8 (pos 0)

none_at : (l : ℕ) → l < 8 → number_at zeros l ≡ pos 0
none_at = at_eight (λ l. number_at zeros l ≡ pos 0) refl refl refl refl refl refl refl refl

negated : (z n d : ℤ) → n ≡ pos 0 → d ≡ n -ℤ z → d ≡ neg_ℤ z
negated z n d none is = is ∙ rw none (omega (arith, ints))

pub returns-then-p-lt2-clause-value : goal.returns-then-p-lt2-clause-value
returns-then-p-lt2-clause-value c = λ l lt.
    let z = row_lane c.args.x.now l in
    let turn : 16 * (c.args.p / 2) ≡ 0 = omega (arith, c.if-p-lt2.true) in
    sym (ap (λ (m : ℕ). scaled_product (turn_at m) z) turn ∙ turned_by_nothing z)

pub returns-else-p-lt2-clause-value : goal.returns-else-p-lt2-clause-value
returns-else-p-lt2-clause-value c = λ l lt.
    let z = row_lane c.args.x.now l in
    let turn : 16 * (c.args.p / 2) ≡ 16 = omega (arith, c.if-p-lt2.false) in
    let re = negated z.im (number_at zeros l) _ (none_at l lt) (c.word_differences.ensures l lt) in
    (λ i. record { re = re i; im = z.re }) ∙ sym (ap (λ (m : ℕ). scaled_product (turn_at m) z) turn ∙ turned_by_a_quarter z)

pub returns-else-p-lt2-clause-re : goal.returns-else-p-lt2-clause-re
returns-else-p-lt2-clause-re c =
    let im = row-im (2 ^ 30 - 2 ^ 12) (2 ^ 30 - 1) c.args.x.now (search rules) (omega arith) c.requires.x in
    within_eight (2 ^ 30 - 1) c.word_differences.result (search rules)
    (λ l lt. let small = im l in rw (negated (number_at c.args.x.now.im l) (number_at zeros l) _ (none_at l lt) (c.word_differences.ensures l lt)) (omega (arith, ints)))

pub returns-else-p-lt2-clause-im : goal.returns-else-p-lt2-clause-im
returns-else-p-lt2-clause-im c = row-re (2 ^ 30 - 2 ^ 12) (2 ^ 30 - 1) c.args.x.now (search rules) (omega arith) c.requires.x
