use Rattle.std.proofs.Common.{Ok, refl}
use Rattle.std.proofs.lemmas.Result.{err_from_is_err_and}
use Rattle.capture_hearing.specs.Received.{IsReceived}
use Rattle.capture_hearing.proofs.FromSource.{heard_all, not_heard, told_err, told_ok}
use Rattle.capture_hearing.proofs.source.receive_from.Goals as goal

pub returns-in_err-hear_source-clause-refused : goal.returns-in_err-hear_source-clause-refused
returns-in_err-hear_source-clause-refused g c =
    let refused = err_from_is_err_and c.from_residual-in_err-hear_source.result c.from_residual-in_err-hear_source.ensures.1 in
    rw (refused.1, refused.2) (not_heard (g.S.Source.left c.args.source.now) (g.S.Source.left c.hear_source.new.source) c.in_err-hear_source.field-0.0
    c.in_err-hear_source.ensures.cause (λ is. c.in_err-hear_source.ensures.long (rw is refl)))

pub returns-clause-text : goal.returns-clause-text
returns-clause-text g c =
    told_ok (g.S.Source.left c.args.source.now) _ c.end.result (λ bytes text. IsReceived bytes (Ok text.items))
    (heard_all _ (g.S.Source.left c.hear_source.new.source) c.hear_source.new.hearing c.in_ok-hear_source.ensures.heard c.in_ok-hear_source.ensures.end) c.end.ensures.text

pub returns-clause-refused : goal.returns-clause-refused
returns-clause-refused g c =
    told_err (g.S.Source.left c.args.source.now) _ c.end.result
    (heard_all _ (g.S.Source.left c.hear_source.new.source) c.hear_source.new.hearing c.in_ok-hear_source.ensures.heard c.in_ok-hear_source.ensures.end) c.end.ensures.refused
