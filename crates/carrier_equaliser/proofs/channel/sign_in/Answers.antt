use Rattle.std.proofs.Common.{◌≡◌, ◌∙◌, ap, arith, to_z, of_z, w32, w64}
use Rattle.std.proofs.lemmas.Int.{ints}
use Rattle.training_fields.specs.Training.{long_sign_of}
use Rattle.carrier_equaliser.proofs.channel.sign_in.Goals as goal

pub returns-clause-sign : goal.returns-clause-sign
returns-clause-sign c =
    let held : to_z w32 (of_z w32 c.carrier_in.result) ≡ c.carrier_in.result = omega (arith, ints, c.carrier_in.ensures.within) in
    let sign : to_z w64 (of_z w64 c.long_sign.result) ≡ c.long_sign.result = omega (arith, ints, c.long_sign.ensures.within) in
    sign ∙ c.long_sign.ensures.sign ∙ ap long_sign_of (held ∙ c.carrier_in.ensures.carrier)
