use Rattle.std.proofs.Common.{◌≡◌, pos, ◌*ℤ◌, w64, to_z, of_z, arith, refl}
use Rattle.std.proofs.lemmas.Int.{to_z-of_z, fits_signed_from_abs, ints}
use Rattle.frame_search.specs.Match.{matches}
use Rattle.frame_search.proofs.matching.is_match.Goals as goal
use mir.Syntax.{w128}

pub returns : goal.returns
unfolding matches
returns c =
    let least : to_z w128 (of_z w128 c.product-least.result) ≡ c.product-least.result = to_z-of_z w128 _ (fits_signed_from_abs w128 _ (omega (arith, c.product-least.ensures.within))) in
    let size : to_z w128 (of_z w128 c.size_squared.result) ≡ c.size_squared.result = to_z-of_z w128 _ (fits_signed_from_abs w128 _ (omega (arith, c.size_squared.ensures.within))) in
    let five : to_z w128 (of_z w128 (pos 5 *ℤ c.size_squared.result)) ≡ pos 5 *ℤ c.size_squared.result = to_z-of_z w128 _ (omega (arith, ints, c.size_squared.ensures.within)) in
    let template : to_z w64 (of_z w64 c.template_energy.result) ≡ c.template_energy.result = to_z-of_z w64 _ (fits_signed_from_abs w64 _ (omega (arith, c.template_energy.ensures.within))) in
    let four : to_z w64 (of_z w64 (pos 4 *ℤ c.template_energy.result)) ≡ pos 4 *ℤ c.template_energy.result = to_z-of_z w64 _ (omega (arith, ints, c.template_energy.ensures.within)) in
    let here : to_z w64 (of_z w64 c.energy.result) ≡ c.energy.result = to_z-of_z w64 _ (fits_signed_from_abs w64 _ (omega (arith, c.energy.ensures.within))) in
    let product : c.product-least.result ≡ pos 4 *ℤ c.template_energy.result *ℤ c.energy.result = rw (template, four, here) at c.product-least.ensures.value in
    rw (least, size, five, product, c.size_squared.ensures.value, c.dot.ensures.value, c.template.ensures, c.template_energy.ensures.value, c.energy.ensures.value) refl
