use Rattle.std.proofs.Common.{refl}
use Rattle.std.proofs.lemmas.Result.{err_from_is_err_and}
use Rattle.command_answers.proofs.Outcomes.{request_outcome, words_refused}
use Rattle.command_answers.specs.Answers.{bytes_of_answer}
use Rattle.command_answers.specs.Inputs.{reads}
use Rattle.command_words.specs.Asking.{command_of}
use Rattle.command_words.specs.Grammar.{texts_of}
use Rattle.modem_runs.proofs.Refused.{drill_reads_nothing, reads_nothing, reads_of_said, reads_unwritten, receive_asked}
use Rattle.modem_runs.proofs.Written.{takes_answer, takes_answer_prefix}
use Rattle.modem_runs.proofs.execute.Goals as goal

pub returns-in_err-request-clause-outcome : goal.returns-in_err-request-clause-outcome
returns-in_err-request-clause-outcome g c =
    let refused = err_from_is_err_and c.from_residual.result c.from_residual.ensures.1 in
    rw (refused.1, refused.2) (λ decided. words_refused (texts_of c.args.words.now) (g.S.Source.left c.args.source.now) _ c.in_err-request.ensures.refused)

pub returns-in_err-request-clause-cause : goal.returns-in_err-request-clause-cause
returns-in_err-request-clause-cause g c =
    let refused = err_from_is_err_and c.from_residual.result c.from_residual.ensures.1 in
    rw (refused.1, refused.2) (λ asks. c.in_err-request.ensures.refused)

pub returns-in_err-request-clause-reads : goal.returns-in_err-request-clause-reads
returns-in_err-request-clause-reads g c =
    let refused = err_from_is_err_and c.from_residual.result c.from_residual.ensures.1 in
    rw (refused.1, refused.2) (λ command says. reads_nothing (texts_of c.args.words.now) _ (reads command) _ _ c.in_err-request.ensures.refused)

pub returns-in_err-answer-clause-reads : goal.returns-in_err-answer-clause-reads
returns-in_err-answer-clause-reads g c =
    let refused = err_from_is_err_and c.from_residual-in_err-answer.result c.from_residual-in_err-answer.ensures.1 in
    rw (refused.1, refused.2) (λ command says.
    reads_of_said (texts_of c.args.words.now) c.in_ok-request.request command (reads (command_of c.in_ok-request.request)) _ _ _ _ _ refl c.in_ok-request.ensures.request says c.in_err-answer.ensures.reads)

pub returns-in_err-answer-clause-outcome : goal.returns-in_err-answer-clause-outcome
returns-in_err-answer-clause-outcome g c =
    let refused = err_from_is_err_and c.from_residual-in_err-answer.result c.from_residual-in_err-answer.ensures.1 in
    rw (refused.1, refused.2) (λ decided.
    request_outcome (texts_of c.args.words.now) (g.S.Source.left c.args.source.now) c.in_ok-request.request _ c.in_ok-request.ensures.request (c.in_err-answer.ensures.refused decided))

pub returns-in_err-answer-clause-bounded : goal.returns-in_err-answer-clause-bounded
returns-in_err-answer-clause-bounded g c = λ says.
    c.in_err-answer.ensures.bounded (receive_asked (texts_of c.args.words.now) c.in_ok-request.request c.in_ok-request.ensures.request says)

pub returns-in-Ok-clause-ok : goal.returns-in-Ok-clause-ok
returns-in-Ok-clause-ok g c =
    takes_answer (texts_of c.args.words.now) (g.S.Source.left c.args.source.now) (bytes_of_answer c.in_ok-answer.answer) _ _
    (request_outcome (texts_of c.args.words.now) (g.S.Source.left c.args.source.now) c.in_ok-request.request _ c.in_ok-request.ensures.request c.in_ok-answer.ensures.ok) c.in-Ok.ensures.ok

pub returns-clause-in_part : goal.returns-clause-in_part
returns-clause-in_part g c = λ is.
    takes_answer_prefix (texts_of c.args.words.now) (g.S.Source.left c.args.source.now) (bytes_of_answer c.in_ok-answer.answer) _ _
    (request_outcome (texts_of c.args.words.now) (g.S.Source.left c.args.source.now) c.in_ok-request.request _ c.in_ok-request.ensures.request c.in_ok-answer.ensures.ok) c.in-Err.ensures.prefix

pub returns-clause-reads : goal.returns-clause-reads
returns-clause-reads g c = λ command says.
    let kind = reads (command_of c.in_ok-request.request) in
    reads_of_said (texts_of c.args.words.now) c.in_ok-request.request command kind _ _ _ _ _ refl c.in_ok-request.ensures.request says (reads_unwritten kind _ _ _ _ c.in_ok-answer.ensures.reads)

pub returns-in-Ok-clause-reads : goal.returns-in-Ok-clause-reads
returns-in-Ok-clause-reads g c = λ command says.
    reads_of_said (texts_of c.args.words.now) c.in_ok-request.request command (reads (command_of c.in_ok-request.request)) _ _ _ _ _ refl c.in_ok-request.ensures.request says c.in_ok-answer.ensures.reads

pub returns-in_err-answer-clause-unread : goal.returns-in_err-answer-clause-unread
returns-in_err-answer-clause-unread g c = λ count says.
    c.in_err-answer.ensures.unread (drill_reads_nothing (texts_of c.args.words.now) c.in_ok-request.request count c.in_ok-request.ensures.request says)

pub returns-in-Ok-clause-unread : goal.returns-in-Ok-clause-unread
returns-in-Ok-clause-unread g c = λ count says.
    c.in_ok-answer.ensures.unread (drill_reads_nothing (texts_of c.args.words.now) c.in_ok-request.request count c.in_ok-request.ensures.request says)

pub returns-clause-unread : goal.returns-clause-unread
returns-clause-unread g c = λ count says.
    c.in_ok-answer.ensures.unread (drill_reads_nothing (texts_of c.args.words.now) c.in_ok-request.request count c.in_ok-request.ensures.request says)
