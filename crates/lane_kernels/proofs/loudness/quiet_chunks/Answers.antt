use Rattle.std.proofs.Common.{◌+◌, ◌*◌, refl, arith}
use Rattle.lane_kernels.proofs.Scans.{quiet-more}
use Rattle.lane_kernels.proofs.loudness.quiet_chunks.Goals as goal

pub loop-k-preserved : goal.loop-k-preserved
loop-k-preserved c = λ n below.
    quiet-more c.args.a.now (16 * c.loop-k.k) (16 * c.loop-k.k + 16) refl c.loop-k.invariant (c.any_loud.ensures c.if-any_loud.false) n (omega arith)

pub returns-then-any_loud-clause-quiet : goal.returns-then-any_loud-clause-quiet
returns-then-any_loud-clause-quiet c = c.loop-k.invariant
