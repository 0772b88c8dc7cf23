use Rattle.std.proofs.Common.{◌+◌, refl, subst, arith}
use Rattle.capture_files.proofs.Bytes.{length-bytes_of_samples}
use Rattle.modem_ports.specs.Told.{GivesExactly}
use Rattle.command_answers.proofs.Inputs.{bytes_not_whole, capture_not_whole, psdu_is_empty, psdu_not_whole}
use Rattle.command_answers.proofs.reading.read_input.Goals as goal

pub returns-in-Ok-clause-outcome : goal.returns-in-Ok-clause-outcome
returns-in-Ok-clause-outcome g c =
    rw c.in-Psdu.is (psdu_is_empty (g.S.Source.left c.args.source.now) (g.S.Source.left c.read_all.new.source) c.in-Ok.psdu.items c.whole_psdu.result
    c.in-Ok.ensures.whole c.in-Ok.ensures.end c.whole_psdu.ensures.empty)

pub returns-in-Err-clause-outcome : goal.returns-in-Err-clause-outcome
returns-in-Err-clause-outcome g c =
    rw (c.in-Psdu.is, c.refusal_of.ensures) (psdu_not_whole (g.S.Source.left c.args.source.now) (g.S.Source.left c.read_all.new.source) c.in-Err.fault
    (λ is. subst (λ n. GivesExactly (n + 1) (g.S.Source.left c.args.source.now) (g.S.Source.left c.read_all.new.source)) c.from.ensures (c.in-Err.ensures.long (rw is refl))))

pub returns-in-Err-read_all-clause-outcome : goal.returns-in-Err-read_all-clause-outcome
returns-in-Err-read_all-clause-outcome g c =
    rw (c.in-Bytes.is, c.refusal_of-in-Err-read_all.ensures) (bytes_not_whole (g.S.Source.left c.args.source.now) (g.S.Source.left c.read_all-in-Bytes.new.source)
    c.in-Err-read_all.fault (λ is. c.in-Err-read_all.ensures.long (rw is refl)))

pub returns-in-Ok-read_capture-clause-accepted : goal.returns-in-Ok-read_capture-clause-accepted
returns-in-Ok-read_capture-clause-accepted g c =
    let count = length-bytes_of_samples c.in-Ok-read_capture.samples.items in
    rw c.in-Capture.is (omega (arith, count, c.in-Ok-read_capture.ensures.within), omega (arith, count))

pub returns-in-Err-read_capture-clause-outcome : goal.returns-in-Err-read_capture-clause-outcome
returns-in-Err-read_capture-clause-outcome g c =
    let said = c.in-Err-read_capture.ensures in
    rw (c.in-Capture.is, c.refusal_of_capture.ensures) (capture_not_whole (g.S.Source.left c.args.source.now) (g.S.Source.left c.read_capture.new.source)
    c.in-Err-read_capture.fault (λ is. said.long (rw is refl))
    (λ bytes is. (said.torn bytes (rw is refl), said.torn_within bytes (rw is refl), said.torn_after bytes (rw is refl), said.torn_end bytes (rw is refl))))
