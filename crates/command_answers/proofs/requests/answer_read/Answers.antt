use Rattle.std.proofs.Common.{refl, subst}
use Rattle.std.specs.Option.{IfSome}
use Rattle.command_answers.specs.Answers.{bytes_of_answer}
use Rattle.command_answers.specs.Inputs.{RefusesInput, bytes_of_input}
use Rattle.command_answers.proofs.Outcomes.{read_err, read_ok, reads_on, refused_input}
use Rattle.command_answers.proofs.requests.answer_read.Goals as goal

pub returns-in-Ok-clause-ok : goal.returns-in-Ok-clause-ok
returns-in-Ok-clause-ok g c =
    read_ok (g.S.Source.left c.args.source.now) c.args.request _ (bytes_of_input c.in-Ok.input) _ c.answer_of.result bytes_of_answer c.of-kind.ensures refl
    c.in-Ok.ensures.input c.in-Ok.ensures.accepted c.answer_of.ensures.ok

pub returns-in-Ok-clause-refused : goal.returns-in-Ok-clause-refused
returns-in-Ok-clause-refused g c =
    read_err (g.S.Source.left c.args.source.now) c.args.request _ (bytes_of_input c.in-Ok.input) _ c.answer_of.result c.of-kind.ensures refl
    c.in-Ok.ensures.input c.in-Ok.ensures.accepted c.answer_of.ensures.refused

pub returns-in-Ok-clause-reads : goal.returns-in-Ok-clause-reads
returns-in-Ok-clause-reads g c =
    reads_on _ c.args.request _ _ _ _ _ c.answer_of.result c.of-kind.ensures c.in-Ok.ensures.reads c.answer_of.ensures.refused

pub returns-in-Err-clause-refused : goal.returns-in-Err-clause-refused
returns-in-Err-clause-refused g c = λ decided.
    refused_input (g.S.Source.left c.args.source.now) c.args.request c.in-Err.refusal
    (subst (λ kind. IfSome (g.S.Source.left c.args.source.now) (RefusesInput kind c.in-Err.refusal)) c.of-kind.ensures (c.in-Err.ensures.outcome decided))
