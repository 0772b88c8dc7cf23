use Rattle.std.proofs.Common.{◌≡◌, ◌+◌, ◌*◌, ◌++◌, take, sym, ap, ◌∙◌, arith}
use Rattle.rate_table.specs.declared.CodeRate.TheVariants.{TwoThirds}
use Rattle.puncture_map.proofs.KeptBits.{kept_bits, kept_bits-part}
use Rattle.puncture_map.proofs.put_sixteens.Goals as goal

pub loop-begun-preserved : goal.loop-begun-preserved
loop-begun-preserved c =
    let code = c.args.code.now in
    let place = 16 * c.loop-begun.begun in
    let next : 16 * (c.loop-begun.begun + 1) ≡ place + 16 = omega arith in
    c.in_ok-extend_from_slice.ensures.items
    ∙ ap (λ bits. bits ++ take 12 c.kept_of_sixteen-kept.result) c.loop-begun.invariant
    ∙ ap (λ bits. kept_bits TwoThirds code place ++ bits) c.kept_of_sixteen-kept.ensures
    ∙ sym (ap (kept_bits TwoThirds code) next ∙ kept_bits-part TwoThirds code place (place + 16) (omega arith) (omega arith) (omega arith))
