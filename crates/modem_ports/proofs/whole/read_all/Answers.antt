use Rattle.std.proofs.Common.{arith}
use Rattle.std.proofs.lemmas.Result.{err_from_is_err_and}
use Rattle.modem_ports.proofs.Pieces.{GivesAtMost-append, GivesExactly-append}
use Rattle.modem_ports.proofs.whole.read_all.Goals as goal

pub returns-in_err-count-clause-long : goal.returns-in_err-count-clause-long
returns-in_err-count-clause-long g c w =
    let p = err_from_is_err_and c.from_residual.result c.from_residual.ensures.1 in
    let h = c.in_err-count.ensures in
    GivesExactly-append _ _ _ _ _ _ c.loop-bytes.invariant.gave (h.long cc) (omega (arith, c.loop-bytes.bytes.ok.0))

pub returns-in_err-count-clause-no_memory_within : goal.returns-in_err-count-clause-no_memory_within
returns-in_err-count-clause-no_memory_within g c w =
    let p = err_from_is_err_and c.from_residual.result c.from_residual.ensures.1 in
    let h = c.in_err-count.ensures in
    GivesAtMost-append _ _ _ _ _ _ c.loop-bytes.invariant.gave (h.no_memory_within cc) (omega (arith, c.loop-bytes.bytes.ok.0))

pub returns-in_err-count-clause-taken : goal.returns-in_err-count-clause-taken
returns-in_err-count-clause-taken g c =
    GivesAtMost-append _ _ _ _ _ _ c.loop-bytes.invariant.gave c.read_piece.ensures.taken (omega (arith, c.loop-bytes.bytes.ok.0))
