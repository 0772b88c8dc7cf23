use Rattle.puncture_map.proofs.KeptBits.{kept_bits-kept, kept_bits-dropped}
use Rattle.puncture_map.proofs.put_rest.Goals as goal
use Rattle.puncture_map.proofs.put_rest.Goals.{then-kept+in_ok-push, else-kept}

pub loop-at-preserved : goal.loop-at-preserved
loop-at-preserved c = λ start.
    let before = c.loop-at.invariant start in
    elim c.if-kept.branch [
      | then-kept+in_ok-push w ↦ (let more = kept_bits-kept c.args.rate c.args.code.now c.loop-at.at (cc) in cc w.in_ok-push.ensures.items)
      | else-kept w ↦ (let more = kept_bits-dropped c.args.rate c.args.code.now c.loop-at.at (cc) in cc)
    ]
