use Rattle.std.proofs.Common.{◌≡◌, ◌∙◌, ap, refl, arith, w64, to_z, of_z, pos, ◌*ℤ◌}
use Rattle.fixed_complex.specs.Pairs.{zero_pair}
use Rattle.fixed_complex.proofs.Pairs.{same_parts}
use Rattle.carrier_bins.specs.Bins.{by_bin}
use Rattle.training_fields.specs.Training.{long_carrier, long_sign_of}
use Rattle.integer_laws.proofs.Filled.{none_filled, one_more, all_filled}
use Rattle.training_fields.proofs.Parts.{carrier_held, signed_648}
use Rattle.training_fields.proofs.long_carriers.Goals as goal

pub loop-bin-init : goal.loop-bin-init
loop-bin-init c = none_filled zero_pair (by_bin long_carrier) 64 _ refl

pub loop-bin-preserved : goal.loop-bin-preserved
loop-bin-preserved c =
    let sign : c.long_sign.result ≡ long_sign_of _ = c.long_sign.ensures.sign ∙ ap long_sign_of (carrier_held _ c.loop-bin.bin c.carrier_in.ensures.within c.carrier_in.ensures.carrier) in
    let part : to_z w64 (of_z w64 (pos 648 *ℤ to_z w64 (of_z w64 c.long_sign.result))) ≡ _ =
    signed_648 c.long_sign.result c.long_sign.ensures.within ∙ ap (λ s. pos 648 *ℤ s) sign in
    one_more zero_pair (by_bin long_carrier) 64 _ _ _ c.loop-bin.invariant c.loop-bin-test.true (same_parts _ _ part refl)

pub returns : goal.returns
returns c = all_filled zero_pair (by_bin long_carrier) 64 _ _ c.loop-bin.invariant (omega arith)
