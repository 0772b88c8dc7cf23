use Rattle.std.proofs.Common.{◌∙◌, arith}
use Rattle.std.proofs.lemmas.Int.{ints}
use Rattle.fixed_complex.specs.Pairs.{times}
use Rattle.fixed_complex.proofs.Pairs.{same_parts}
use Rattle.pilot_turns.proofs.Parts.{difference_is, im_part, product_is, re_part, sum_is}
use Rattle.pilot_turns.proofs.decisions.turned_back.Goals as goal

pub overflow_sub-result : goal.overflow_sub-result
overflow_sub-result c = let p = c.product-3.ensures.within in let q = c.product-4.ensures.within in omega (arith, ints, p, q)

pub returns-clause-value : goal.returns-clause-value
unfolding times
returns-clause-value c =
    let a = c.args.carrier in
    let b = c.args.channel in
    let re = sum_is c.product.result c.product-2.result c.product.ensures.within c.product-2.ensures.within in
    let im = difference_is c.product-3.result c.product-4.result c.product-3.ensures.within c.product-4.ensures.within in
    let small = c.requires.carrier in
    let small' = c.requires.channel in
    let first = product_is c.product.result a.re b.re (omega (arith, small.re)) (omega (arith, small'.re)) c.product.ensures.value in
    let second = product_is c.product-2.result a.im b.im (omega (arith, small.im)) (omega (arith, small'.im)) c.product-2.ensures.value in
    let third = product_is c.product-3.result a.im b.re (omega (arith, small.im)) (omega (arith, small'.re)) c.product-3.ensures.value in
    let fourth = product_is c.product-4.result a.re b.im (omega (arith, small.re)) (omega (arith, small'.im)) c.product-4.ensures.value in
    same_parts _ _ (re ∙ rw (first, second) (re_part a.re a.im b.re b.im)) (im ∙ rw (third, fourth) (im_part a.re a.im b.re b.im))

pub returns-clause-within : goal.returns-clause-within
returns-clause-within c = record {
  re = let p = c.product.ensures.within in let q = c.product-2.ensures.within in omega (arith, ints, p, q);
  im = let p = c.product-3.ensures.within in let q = c.product-4.ensures.within in omega (arith, ints, p, q);
}
