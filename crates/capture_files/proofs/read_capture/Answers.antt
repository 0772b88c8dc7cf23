use Rattle.std.proofs.Common.{◌++◌, arith}
use Rattle.std.proofs.lemmas.Result.{err_from_is_err_and}
use Rattle.modem_ports.proofs.Pieces.{GivesAtMost-append, GivesExactly-append}
use Rattle.capture_files.specs.Captures.{bytes_of_samples}
use Rattle.capture_files.proofs.Bytes.{length-bytes_so_far}
use Rattle.capture_files.proofs.Pieces.{gave_more}
use Rattle.capture_files.proofs.read_capture.Goals as goal

pub returns-in_err-count-clause-long : goal.returns-in_err-count-clause-long
returns-in_err-count-clause-long g c w =
    let p = err_from_is_err_and c.from_residual.result c.from_residual.ensures.1 in
    GivesExactly-append _ _ _ _ _ _ c.loop-samples.invariant.gave (c.in_err-count.ensures.long cc)
    (omega (arith, c.loop-samples.invariant.within, length-bytes_so_far c.loop-samples.samples.items c.loop-samples.piecer))

pub returns-in_err-count-clause-failed_within : goal.returns-in_err-count-clause-failed_within
returns-in_err-count-clause-failed_within g c w =
    let p = err_from_is_err_and c.from_residual.result c.from_residual.ensures.1 in (
      bytes_of_samples c.loop-samples.samples.items ++ c.loop-samples.piecer,
      omega (arith, c.loop-samples.invariant.within, length-bytes_so_far c.loop-samples.samples.items c.loop-samples.piecer),
      rw (c.in_err-count.ensures.kept cc) c.loop-samples.invariant.gave,
    )

pub returns-in_err-count-clause-no_memory_within :
    goal.returns-in_err-count-clause-no_memory_within
returns-in_err-count-clause-no_memory_within g c w =
    let p = err_from_is_err_and c.from_residual.result c.from_residual.ensures.1 in
    GivesAtMost-append _ _ _ _ _ _ c.loop-samples.invariant.gave (c.in_err-count.ensures.no_memory_within cc)
    (omega (arith, c.loop-samples.invariant.within, length-bytes_so_far c.loop-samples.samples.items c.loop-samples.piecer))

pub returns-in_err-count-clause-taken : goal.returns-in_err-count-clause-taken
returns-in_err-count-clause-taken g c =
    GivesAtMost-append _ _ _ _ _ _ c.loop-samples.invariant.gave c.read_piece.ensures.taken
    (omega (arith, c.loop-samples.invariant.within, length-bytes_so_far c.loop-samples.samples.items c.loop-samples.piecer))

pub returns-then-count-eq0-clause-torn_after : goal.returns-then-count-eq0-clause-torn_after
returns-then-count-eq0-clause-torn_after g c bytes w =
    let given = c.in_ok-count.ensures.given in
    let all = bytes_of_samples c.read_piece.new.samples.items ++ c.read_piece.new.piecer in (
      all,
      omega (arith, c.whole_samples.ensures.bytes bytes w, length-bytes_so_far c.read_piece.new.samples.items c.read_piece.new.piecer),
      gave_more (g.S.Source.left c.args.source.now) _ _ _ all c.loop-samples.invariant.gave given,
    )

pub returns-then-count-eq0-clause-taken : goal.returns-then-count-eq0-clause-taken
returns-then-count-eq0-clause-taken g c =
    let given = c.in_ok-count.ensures.given in
    let all = bytes_of_samples c.read_piece.new.samples.items ++ c.read_piece.new.piecer in (
      all,
      omega (arith, c.in_ok-count.ensures.within, length-bytes_so_far c.read_piece.new.samples.items c.read_piece.new.piecer),
      gave_more (g.S.Source.left c.args.source.now) _ _ _ all c.loop-samples.invariant.gave given,
    )
