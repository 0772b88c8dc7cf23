use Rattle.std.proofs.Common.{arith}
use Rattle.fixed_complex.specs.Pairs.{times}
use Rattle.fixed_complex.proofs.Parts.{difference_of, sum_of}
use Rattle.fixed_complex.proofs.Pairs.{same_parts}
use Rattle.fixed_complex.proofs.mul.Goals as goal

pub returns : goal.returns
unfolding times
returns c =
    let a = c.args.a in
    let b = c.args.b in
    let of_a = c.requires.a in
    let of_b = c.requires.b in
    same_parts _ _
    (difference_of c.product.result c.product-2.result a.re b.re a.im b.im c.product.ensures.bound c.product-2.ensures.bound (omega (arith, of_a.re)) (omega (arith, of_b.re)) (omega (arith, of_a.im)) (omega (arith, of_b.im)) c.product.ensures.value c.product-2.ensures.value)
    (sum_of c.product-3.result c.product-4.result a.re b.im a.im b.re c.product-3.ensures.bound c.product-4.ensures.bound (omega (arith, of_a.re)) (omega (arith, of_b.im)) (omega (arith, of_a.im)) (omega (arith, of_b.re)) c.product-3.ensures.value c.product-4.ensures.value)
