use Rattle.std.proofs.Common.{length, ap, subst, refl, arith}
use Rattle.std.specs.Prelude.{Result, Ok, Err}
use Rattle.std.proofs.lemmas.List.{length-drop}
use Rattle.frame_findings.specs.declared.Heard.{Heard}
use Rattle.frame_reader.specs.Decisions.{decisions_by}
use Rattle.frame_starts.specs.declared.AtFault.{AtFault}
use Rattle.frame_starts.specs.Starts.{IsFrameAt, no_header}
use Rattle.frame_starts.proofs.Hearing.{cut_by_header, reads_at, whole_at}
use Rattle.frame_starts.proofs.reading.read_at.Goals as goal

pub returns-in-Err-clause-bad_header : goal.returns-in-Err-clause-bad_header
returns-in-Err-clause-bad_header g c = λ at is.
    let decisions = decisions_by g.D.Decider.decided in
    let samples = c.samples_from-samples in
    let reads = reads_at decisions c.args.capture.now samples.result.now c.args.start (Err c.in-Err.field-0) samples.ensures (omega arith) c.in-Err.ensures.says in
    subst (λ (answer : Result Heard AtFault). IsFrameAt decisions c.args.capture.now c.args.start answer) is (no_header c.in-Err.field-0 reads refl)

pub returns-then-have-need-clause-cut : goal.returns-then-have-need-clause-cut
returns-then-have-need-clause-cut g c = λ at have need is.
    let decisions = decisions_by g.D.Decider.decided in
    let samples = c.samples_from-samples in
    let reads = reads_at decisions c.args.capture.now samples.result.now c.args.start (Ok c.in-Ok.header) samples.ensures (omega arith) c.in-Ok.ensures.says in
    subst (λ (answer : Result Heard AtFault). IsFrameAt decisions c.args.capture.now c.args.start answer) is
    (cut_by_header decisions c.args.capture.now samples.result.now c.args.start c.in-Ok.header _ samples.ensures reads (omega (arith, c.symbols_in.ensures.value)) (omega arith))

pub returns-clause-heard : goal.returns-clause-heard
returns-clause-heard g c =
    let decisions = decisions_by g.D.Decider.decided in
    let samples = c.samples_from-samples in
    let header = c.in-Ok.header in
    let reads = reads_at decisions c.args.capture.now samples.result.now c.args.start (Ok header) samples.ensures (omega arith) c.in-Ok.ensures.says in
    let frame = c.in_ok-heard_at.field-0 in
    let whole = c.in_ok-heard_at.ensures.heard (decisions samples.result.now) c.args.capture.now c.hear_symbols.ensures.stands
    (omega (arith, c.symbols_in.ensures.value, ap length samples.ensures, length-drop c.args.start c.args.capture.now)) in
    whole_at decisions c.args.capture.now samples.result.now c.args.start header frame samples.ensures reads c.in_ok-heard_at.ensures.start whole
