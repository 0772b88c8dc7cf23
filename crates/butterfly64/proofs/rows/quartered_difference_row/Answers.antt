use Rattle.std.proofs.Common.{◌≡◌, inl, inr, ℕ, ◌+◌, ◌-◌, ◌*◌, ◌%◌, ◌^◌, refl, ap, sym, ◌∙◌, rules, arith}
use Rattle.std.specs.Prelude.{ℤ, neg_ℤ, ◌-ℤ◌}
use Rattle.std.proofs.lemmas.Bool.{cases_lt}
use Rattle.std.proofs.lemmas.Int.{ints}
use Rattle.fixed_complex.specs.Numbers.{number_at}
use Rattle.fixed_complex.specs.Pairs.{conjugate, minus, scaled_product}
use Rattle.fixed_complex.specs.Turns.{turn_at}
use Rattle.butterfly64.specs.Rows.{row_lane}
use Rattle.butterfly64.proofs.RowLanes.{differences-within, even_word, odd_word, row-im, row-re}
use Rattle.butterfly64.proofs.RowStages.{quarter_back, unturned}
use Rattle.butterfly64.proofs.rows.quartered_difference_row.Goals as goal

pub word_differences-negative_re-requires-clause-x : goal.word_differences-negative_re-requires-clause-x
word_differences-negative_re-requires-clause-x c = row-re (2 ^ 29 + 2 ^ 14) (2 ^ 30 - 1) c.args.y.now (search rules) (omega arith) c.requires.y

pub word_differences-negative_re-requires-clause-y : goal.word_differences-negative_re-requires-clause-y
word_differences-negative_re-requires-clause-y c = row-re (2 ^ 29 + 2 ^ 14) (2 ^ 30 - 1) c.args.x.now (search rules) (omega arith) c.requires.x

negated : (a b n : ℤ) → n ≡ b -ℤ a → n ≡ neg_ℤ (a -ℤ b)
negated a b n is = is ∙ omega (arith, ints)

pub returns : goal.returns
returns c = λ l lt.
    let x = c.args.x.now in
    let y = c.args.y.now in
    let re = c.word_differences-re.result in
    let im = c.word_differences-im.result in
    let negative = c.word_differences-negative_re.result in
    let x_re = row-re (2 ^ 29 + 2 ^ 14) (2 ^ 30 - 1) x (search rules) (omega arith) c.requires.x in
    let y_re = row-re (2 ^ 29 + 2 ^ 14) (2 ^ 30 - 1) y (search rules) (omega arith) c.requires.y in
    let x_im = row-im (2 ^ 29 + 2 ^ 14) (2 ^ 30 - 1) x (search rules) (omega arith) c.requires.x in
    let y_im = row-im (2 ^ 29 + 2 ^ 14) (2 ^ 30 - 1) y (search rules) (omega arith) c.requires.y in
    let re_fits = differences-within x.re y.re re (search rules) x_re y_re c.word_differences-re.ensures in
    let im_fits = differences-within x.im y.im im (search rules) x_im y_im c.word_differences-im.ensures in
    let negative_fits = differences-within y.re x.re negative (search rules) y_re x_re c.word_differences-negative_re.ensures in
    let z = minus (row_lane x l) (row_lane y l) in
    let z_re = c.word_differences-re.ensures l lt in
    let z_im = c.word_differences-im.ensures l lt in
    let z_negative = negated (number_at x.re l) (number_at y.re l) _ (c.word_differences-negative_re.ensures l lt) in
    elim (cases_lt (l % 2) 1) [
      | inl first ↦
          let even : l % 2 ≡ 0 = omega arith in
          let turn : 16 * (l % 2) ≡ 0 = omega arith in
          let a = even_word re im _ (search rules) re_fits im_fits refl l lt even ∙ z_re in
          let b = even_word im negative _ (search rules) im_fits negative_fits refl l lt even ∙ z_im in
          (λ i. record { re = a i; im = b i }) ∙ sym (ap (λ (m : ℕ). scaled_product (conjugate (turn_at m)) z) turn ∙ unturned z)
      | inr past ↦
          let odd : l % 2 ≡ 1 = omega arith in
          let turn : 16 * (l % 2) ≡ 16 = omega arith in
          let a = odd_word re im _ (search rules) re_fits im_fits refl l lt odd ∙ z_im in
          let b = odd_word im negative _ (search rules) im_fits negative_fits refl l lt odd ∙ z_negative in
          (λ i. record { re = a i; im = b i }) ∙ sym (ap (λ (m : ℕ). scaled_product (conjugate (turn_at m)) z) turn ∙ quarter_back z)
    ]
