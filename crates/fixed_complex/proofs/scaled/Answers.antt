use Rattle.std.proofs.Common.{arith}
use Rattle.fixed_complex.specs.Pairs.{times, scaled_product}
use Rattle.fixed_complex.proofs.Parts.{difference_of, difference_within, sum_of, sum_fits, rounded_is}
use Rattle.fixed_complex.proofs.Pairs.{same_parts}
use Rattle.fixed_complex.proofs.scaled.Goals as goal

pub over_2_20-requires : goal.over_2_20-requires
over_2_20-requires c = difference_within c.product.result c.product-2.result c.product.ensures.bound c.product-2.ensures.bound

pub overflow_add-product : goal.overflow_add-product
overflow_add-product c = sum_fits c.product-3.result c.product-4.result c.product-3.ensures.bound c.product-4.ensures.bound

pub returns : goal.returns
unfolding times scaled_product
returns c =
    let w = c.args.w in
    let z = c.args.z in
    let of_w = c.requires.w in
    let of_z = c.requires.z in
    same_parts _ _
    (rounded_is c.over_2_20.result _ _ c.over_2_20.ensures.bound c.over_2_20.ensures.value (difference_of c.product.result c.product-2.result w.re z.re w.im z.im c.product.ensures.bound c.product-2.ensures.bound (omega (arith, of_w.re)) (omega (arith, of_z.re)) (omega (arith, of_w.im)) (omega (arith, of_z.im)) c.product.ensures.value c.product-2.ensures.value))
    (rounded_is c.over_2_20-2.result _ _ c.over_2_20-2.ensures.bound c.over_2_20-2.ensures.value (sum_of c.product-3.result c.product-4.result w.re z.im w.im z.re c.product-3.ensures.bound c.product-4.ensures.bound (omega (arith, of_w.re)) (omega (arith, of_z.im)) (omega (arith, of_w.im)) (omega (arith, of_z.re)) c.product-3.ensures.value c.product-4.ensures.value))
