use Rattle.std.proofs.Common.{arith}
use Rattle.std.proofs.lemmas.Result.{err_from_is_err_and}
use Rattle.modem_ports.proofs.Pieces.{GivesAtMost-append, GivesExactly-append}
use Rattle.capture_hearing.proofs.FromSource.{heard_bound}
use Rattle.capture_hearing.proofs.source.hear_source.Goals as goal

pub returns-in_err-count-clause-long : goal.returns-in_err-count-clause-long
returns-in_err-count-clause-long g c is =
    let p = err_from_is_err_and c.from_residual.result c.from_residual.ensures.1 in
    let h = c.in_err-count.ensures in
    GivesExactly-append _ _ _ _ _ _ c.loop-count.invariant.heard.1 (h.long cc) (omega (arith, c.loop-count.invariant.heard.2.count, c.loop-count.invariant.within))

pub returns-in_err-count-clause-taken : goal.returns-in_err-count-clause-taken
returns-in_err-count-clause-taken g c =
    GivesAtMost-append _ _ _ _ _ _ c.loop-count.invariant.heard.1 c.hear_piece.ensures.taken (omega (arith, c.loop-count.invariant.heard.2.count, c.loop-count.invariant.within))

pub returns-in_err-count-clause-bounded : goal.returns-in_err-count-clause-bounded
returns-in_err-count-clause-bounded g c =
    rw c.in_err-count.ensures.unheard (heard_bound _ _ c.loop-count.hearing c.loop-count.invariant.heard)

pub returns-then-count-eq0-clause-taken : goal.returns-then-count-eq0-clause-taken
returns-then-count-eq0-clause-taken g c =
    GivesAtMost-append _ _ _ _ _ _ c.loop-count.invariant.heard.1 c.hear_piece.ensures.taken (omega (arith, c.loop-count.invariant.heard.2.count, c.loop-count.invariant.within))

pub returns-then-count-eq0-clause-bounded : goal.returns-then-count-eq0-clause-bounded
returns-then-count-eq0-clause-bounded g c =
    heard_bound _ _ c.hear_piece.new.hearing (c.in_ok-count.ensures.heard (g.S.Source.left c.args.source.now) c.loop-count.invariant.heard)
