use Rattle.std.proofs.Common.{◌≡◌, ◌∙◌, sym, unsigned_abs, arith, w64, w32, to_z, of_z, pos, ◌+ℤ◌}
use Rattle.std.proofs.lemmas.Int.{ints}
use Rattle.carrier_bins.proofs.Signs.{sign_above, sign_below, sign_inside}
use Rattle.training_fields.proofs.sign_at.Goals as goal

pub returns-in-minus26-to-26-clause-sign : goal.returns-in-minus26-to-26-clause-sign
returns-in-minus26-to-26-clause-sign c =
    let carrier = c.args.carrier in
    let place = unsigned_abs (to_z w32 (of_z w32 (to_z w32 (of_z w32 carrier) +ℤ pos 26))) in
    let e : carrier +ℤ pos 26 ≡ pos place = omega (arith, ints) in
    let value : to_z w64 (of_z w64 c.sign_of.result) ≡ c.sign_of.result = omega (arith, ints, c.sign_of.ensures.within) in
    value ∙ c.sign_of.ensures.sign ∙ sym (sign_inside c.args.signs.now carrier place e)

pub returns-in_default-clause-sign : goal.returns-in_default-clause-sign
returns-in_default-clause-sign c = sym (sign_below c.args.signs.now c.args.carrier (omega (arith, ints)))

pub returns-in_default-2-clause-sign : goal.returns-in_default-2-clause-sign
returns-in_default-2-clause-sign c =
    sym (sign_above c.args.signs.now c.args.carrier c.told-signs (omega (arith, ints)))
