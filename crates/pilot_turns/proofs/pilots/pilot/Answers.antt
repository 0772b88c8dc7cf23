use Rattle.std.proofs.Common.{◌≡◌, ◌^◌, arith}
use Rattle.fixed_complex.specs.declared.Cx.{Cx}
use Rattle.fixed_complex.specs.Pairs.{IsWithin, conjugate, times}
use Rattle.fixed_complex.proofs.PairLists.{everywhere_within}
use Rattle.fixed_complex.proofs.PairSizes.{within-conjugate, within-times, within_wider}
use Rattle.pilot_turns.proofs.pilots.pilot.Goals as goal

-- how large a received carrier times the conjugate of a channel is
small : (back carrier channel turned : Cx) → back ≡ times carrier turned → turned ≡ conjugate channel → IsWithin (2 ^ 22) carrier → IsWithin (2 ^ 23) channel → IsWithin (2 ^ 46) back
small back carrier channel turned is same small_carrier small_channel =
    rw is (within-times (2 ^ 22) (2 ^ 23) carrier turned small_carrier (rw same (within-conjugate (2 ^ 23) channel small_channel)))

pub signed-requires-clause-pair : goal.signed-requires-clause-pair
signed-requires-clause-pair c =
    within_wider (2 ^ 46) (2 ^ 61) _ (omega arith)
    (small c.mul-back.result _ c.at.result c.conj.result c.mul-back.ensures c.conj.ensures (everywhere_within (2 ^ 22) c.args.symbol.now c.requires.symbol c.bin.result) c.at.ensures.within)

pub returns-clause-within : goal.returns-clause-within
returns-clause-within c =
    c.signed.ensures.within (2 ^ 46)
    (small c.mul-back.result _ c.at.result c.conj.result c.mul-back.ensures c.conj.ensures (everywhere_within (2 ^ 22) c.args.symbol.now c.requires.symbol c.bin.result) c.at.ensures.within)
