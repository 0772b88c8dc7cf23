use Rattle.std.proofs.Common.{◌≡◌, ◌+◌, ◌*◌, ◌++◌, sym, ap, ◌∙◌, arith}
use Rattle.rate_table.specs.declared.CodeRate.TheVariants.{ThreeQuarters}
use Rattle.puncture_map.proofs.KeptBits.{kept_bits, kept_bits-part}
use Rattle.puncture_map.proofs.put_twenty_fours.Goals as goal

pub loop-begun-preserved : goal.loop-begun-preserved
loop-begun-preserved c =
    let code = c.args.code.now in
    let place = 24 * c.loop-begun.begun in
    let next : 24 * (c.loop-begun.begun + 1) ≡ place + 24 = omega arith in
    c.in_ok-extend_from_slice.ensures.items
    ∙ ap (λ bits. bits ++ c.kept_of_twenty_four-kept.result) c.loop-begun.invariant
    ∙ ap (λ bits. kept_bits ThreeQuarters code place ++ bits) c.kept_of_twenty_four-kept.ensures
    ∙ sym (ap (kept_bits ThreeQuarters code) next ∙ kept_bits-part ThreeQuarters code place (place + 24) (omega arith) (omega arith) (omega arith))
