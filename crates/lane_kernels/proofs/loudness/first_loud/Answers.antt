use Rattle.std.proofs.Common.{length, sym, ◌∙◌, arith}
use Rattle.lane_kernels.proofs.Scans.{first_is}
use Rattle.lane_kernels.proofs.loudness.first_loud.Goals as goal

pub returns-then-is_loud : goal.returns-then-is_loud
returns-then-is_loud c =
    let loud = sym c.is_loud.ensures ∙ c.if-is_loud.true in
    sym (first_is c.args.a.now c.loop-n.n (omega arith) c.loop-n.invariant (λ _. loud))

pub returns : goal.returns
returns c =
    sym (first_is c.args.a.now (length c.args.a.now) (omega arith) (λ n below. c.loop-n.invariant n (omega arith)) (λ absent. absurd (omega arith)))
