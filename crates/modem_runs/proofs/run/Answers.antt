use Rattle.std.proofs.Common.{◌≡◌, ◌+◌, ◌∙◌, ap, refl, sym, Some}
use Rattle.modem_ports.specs.Limits.{most_input}
use Rattle.modem_ports.specs.Counts.{Rose}
use Rattle.modem_ports.specs.Told.{GivesExactly}
use Rattle.rate_table.specs.Symbols.{most_octets}
use Rattle.report_lines.specs.declared.Refusal.TheVariants.{LongCapture, LongPsdu}
use Rattle.report_lines.specs.declared.Status.TheVariants as status
use Rattle.report_lines.specs.Refusals.{status_of}
use Rattle.command_words.specs.Grammar.{texts_of}
use Rattle.command_answers.specs.Flips.{IsCheapText, IsFlippedText}
use Rattle.command_answers.specs.InEchoes.{IsCaptureInEchoes, line_of}
use Rattle.command_answers.specs.InTurns.{IsCaptureInTurns}
use Rattle.command_answers.specs.InNoise.{IsCaptureInNoise, lines_of}
use Rattle.report_lines.proofs.ByKind.{no_refusal_is_ok}
use Rattle.modem_runs.proofs.Refused.{answered_follows, answered_refuses, bad_words, refused_answers, refused_ask_nothing, refused_follows, refused_refuses, refuses_words, where_refused}
use Rattle.modem_runs.proofs.Written.{written_where_answered, written_where_refused}
use Rattle.modem_runs.proofs.run.Goals as goal

pub returns-in-Ok-clause-bad_words : goal.returns-in-Ok-clause-bad_words
returns-in-Ok-clause-bad_words g c = (λ is. cc, λ refused. absurd (c.in-Ok.ensures.words (refused_ask_nothing _ refused)))

pub returns-in-Ok-clause-refuses : goal.returns-in-Ok-clause-refuses
returns-in-Ok-clause-refuses g c = λ unread.
    answered_refuses c.outcome_is_one.ensures.only (texts_of c.args.words.now) (g.S.Source.left c.args.source.now) (g.K.Sink.taken c.args.out.now) (g.K.Sink.taken c.execute.new.out) _ c.in-Ok.ensures.ok

pub returns-in-Err-clause-reported : goal.returns-in-Err-clause-reported
returns-in-Err-clause-reported g c = λ failed. record {
  refusal = c.in-Err.refusal;
  has_status = cc;
  of_words = λ is. refuses_words (texts_of c.args.words.now) c.in-Err.refusal c.in-Err.ensures.cause (rw c.refuse.ensures.status at is);
  of_input = λ decided. c.in-Err.ensures.outcome (rw c.refuse.ensures.status at decided);
  is_taken = c.refuse.ensures.reported;
}

pub returns-in-Err-clause-bad_words : goal.returns-in-Err-clause-bad_words
returns-in-Err-clause-bad_words g c =
    rw c.refuse.ensures.status (bad_words (texts_of c.args.words.now) c.in-Err.refusal
    c.in-Err.ensures.cause c.in-Err.ensures.words)

pub returns-in-Err-clause-answers : goal.returns-in-Err-clause-answers
returns-in-Err-clause-answers g c = λ unread unwritten.
    rw c.refuse.ensures.status (refused_answers c.outcome_is_one.ensures.only (texts_of c.args.words.now) (g.S.Source.left c.args.source.now) c.in-Err.refusal
    (Rose (g.S.Source.faults c.args.source.now) (g.S.Source.faults c.execute.new.source))
    (Rose (g.K.Sink.faults c.args.out.now) (g.K.Sink.faults c.execute.new.out))
    c.in-Err.ensures.outcome (λ is. c.in-Err.ensures.read_fault (rw is refl)) (λ is. c.in-Err.ensures.write_fault (rw is refl)) unread unwritten)

pub returns-in-Err-clause-refuses : goal.returns-in-Err-clause-refuses
returns-in-Err-clause-refuses g c = λ unread.
    rw c.refuse.ensures.status (refused_refuses c.outcome_is_one.ensures.only (texts_of c.args.words.now) (g.S.Source.left c.args.source.now) c.in-Err.refusal
    (Rose (g.S.Source.faults c.args.source.now) (g.S.Source.faults c.execute.new.source))
    (g.K.Sink.taken c.args.out.now) (g.K.Sink.taken c.execute.new.out)
    c.in-Err.ensures.outcome (λ is. c.in-Err.ensures.read_fault (rw is refl)) (λ is. c.in-Err.ensures.in_part (rw is refl)) unread)

pub returns-in-Err-clause-follows : goal.returns-in-Err-clause-follows
returns-in-Err-clause-follows g c =
    rw c.refuse.ensures.status (refused_follows c.outcome_is_one.ensures.only (texts_of c.args.words.now) (g.S.Source.left c.args.source.now) c.in-Err.refusal
    (g.K.Sink.taken c.args.out.now) (g.K.Sink.taken c.execute.new.out) c.in-Err.ensures.outcome (λ is. c.in-Err.ensures.in_part (rw is refl)))

pub returns-in-Ok-clause-repaired : goal.returns-in-Ok-clause-repaired
returns-in-Ok-clause-repaired g c = λ unread unwritten.
    written_where_answered c.outcome_is_one.ensures.only (texts_of c.args.words.now) (IsFlippedText (texts_of c.args.words.now)) (λ psdu. psdu)
    (c.flipped_text_gives_its_psdu.ensures (texts_of c.args.words.now)) (g.S.Source.left c.args.source.now) (g.K.Sink.taken c.args.out.now) (g.K.Sink.taken c.execute.new.out) _ refl c.in-Ok.ensures.ok

pub returns-in-Ok-clause-soft_repaired : goal.returns-in-Ok-clause-soft_repaired
returns-in-Ok-clause-soft_repaired g c = λ unread unwritten.
    written_where_answered c.outcome_is_one.ensures.only (texts_of c.args.words.now) (IsCheapText (texts_of c.args.words.now)) (λ psdu. psdu)
    (c.cheap_text_gives_its_psdu.ensures (texts_of c.args.words.now)) (g.S.Source.left c.args.source.now) (g.K.Sink.taken c.args.out.now) (g.K.Sink.taken c.execute.new.out) _ refl c.in-Ok.ensures.ok

pub returns-in-Ok-clause-withstood : goal.returns-in-Ok-clause-withstood
returns-in-Ok-clause-withstood g c = λ unread unwritten.
    written_where_answered c.outcome_is_one.ensures.only (texts_of c.args.words.now) (IsCaptureInNoise (texts_of c.args.words.now)) lines_of
    (c.capture_in_noise_gives_its_frames.ensures (texts_of c.args.words.now)) (g.S.Source.left c.args.source.now) (g.K.Sink.taken c.args.out.now) (g.K.Sink.taken c.execute.new.out) _ refl c.in-Ok.ensures.ok

pub returns-in-Ok-clause-through_echoes : goal.returns-in-Ok-clause-through_echoes
returns-in-Ok-clause-through_echoes g c = λ unread unwritten.
    written_where_answered c.outcome_is_one.ensures.only (texts_of c.args.words.now) (IsCaptureInEchoes (texts_of c.args.words.now)) (λ echoed. line_of echoed.frame)
    (c.echoed_capture_gives_its_frame.ensures (texts_of c.args.words.now)) (g.S.Source.left c.args.source.now) (g.K.Sink.taken c.args.out.now) (g.K.Sink.taken c.execute.new.out) _ refl c.in-Ok.ensures.ok

pub returns-in-Ok-clause-through_turns : goal.returns-in-Ok-clause-through_turns
returns-in-Ok-clause-through_turns g c = λ unread unwritten.
    written_where_answered c.outcome_is_one.ensures.only (texts_of c.args.words.now) (IsCaptureInTurns (texts_of c.args.words.now)) (λ turned. line_of turned.frame)
    (c.turned_capture_gives_its_frame.ensures (texts_of c.args.words.now)) (g.S.Source.left c.args.source.now) (g.K.Sink.taken c.args.out.now) (g.K.Sink.taken c.execute.new.out) _ refl c.in-Ok.ensures.ok

pub returns-in-Ok-clause-follows : goal.returns-in-Ok-clause-follows
returns-in-Ok-clause-follows g c =
    answered_follows c.outcome_is_one.ensures.only (texts_of c.args.words.now) (g.S.Source.left c.args.source.now) (g.K.Sink.taken c.args.out.now) (g.K.Sink.taken c.execute.new.out) c.in-Ok.ensures.ok

pub returns-in-Err-clause-repaired : goal.returns-in-Err-clause-repaired
returns-in-Err-clause-repaired g c = λ unread unwritten.
    written_where_refused (texts_of c.args.words.now) (IsFlippedText (texts_of c.args.words.now)) (λ psdu. psdu)
    (c.flipped_text_gives_its_psdu.ensures (texts_of c.args.words.now)) (g.S.Source.left c.args.source.now) (g.K.Sink.taken c.args.out.now) (g.K.Sink.taken c.execute.new.out) c.refuse.result
    (λ is. no_refusal_is_ok c.in-Err.refusal (rw c.refuse.ensures.status at is)) (returns-in-Err-clause-answers g c unread unwritten)

pub returns-in-Err-clause-soft_repaired : goal.returns-in-Err-clause-soft_repaired
returns-in-Err-clause-soft_repaired g c = λ unread unwritten.
    written_where_refused (texts_of c.args.words.now) (IsCheapText (texts_of c.args.words.now)) (λ psdu. psdu)
    (c.cheap_text_gives_its_psdu.ensures (texts_of c.args.words.now)) (g.S.Source.left c.args.source.now) (g.K.Sink.taken c.args.out.now) (g.K.Sink.taken c.execute.new.out) c.refuse.result
    (λ is. no_refusal_is_ok c.in-Err.refusal (rw c.refuse.ensures.status at is)) (returns-in-Err-clause-answers g c unread unwritten)

pub returns-in-Err-clause-withstood : goal.returns-in-Err-clause-withstood
returns-in-Err-clause-withstood g c = λ unread unwritten.
    written_where_refused (texts_of c.args.words.now) (IsCaptureInNoise (texts_of c.args.words.now)) lines_of
    (c.capture_in_noise_gives_its_frames.ensures (texts_of c.args.words.now)) (g.S.Source.left c.args.source.now) (g.K.Sink.taken c.args.out.now) (g.K.Sink.taken c.execute.new.out) c.refuse.result
    (λ is. no_refusal_is_ok c.in-Err.refusal (rw c.refuse.ensures.status at is)) (returns-in-Err-clause-answers g c unread unwritten)

pub returns-in-Err-clause-through_echoes : goal.returns-in-Err-clause-through_echoes
returns-in-Err-clause-through_echoes g c = λ unread unwritten.
    written_where_refused (texts_of c.args.words.now) (IsCaptureInEchoes (texts_of c.args.words.now)) (λ echoed. line_of echoed.frame)
    (c.echoed_capture_gives_its_frame.ensures (texts_of c.args.words.now)) (g.S.Source.left c.args.source.now) (g.K.Sink.taken c.args.out.now) (g.K.Sink.taken c.execute.new.out) c.refuse.result
    (λ is. no_refusal_is_ok c.in-Err.refusal (rw c.refuse.ensures.status at is)) (returns-in-Err-clause-answers g c unread unwritten)

pub returns-in-Err-clause-through_turns : goal.returns-in-Err-clause-through_turns
returns-in-Err-clause-through_turns g c = λ unread unwritten.
    written_where_refused (texts_of c.args.words.now) (IsCaptureInTurns (texts_of c.args.words.now)) (λ turned. line_of turned.frame)
    (c.turned_capture_gives_its_frame.ensures (texts_of c.args.words.now)) (g.S.Source.left c.args.source.now) (g.K.Sink.taken c.args.out.now) (g.K.Sink.taken c.execute.new.out) c.refuse.result
    (λ is. no_refusal_is_ok c.in-Err.refusal (rw c.refuse.ensures.status at is)) (returns-in-Err-clause-answers g c unread unwritten)

pub returns-in-Err-clause-read_to_limit : goal.returns-in-Err-clause-read_to_limit
returns-in-Err-clause-read_to_limit g c = λ is.
    let status_is : status_of c.in-Err.refusal ≡ status.BadInput = sym c.refuse.ensures.status ∙ is in
    where_refused c.outcome_is_one.ensures.only (texts_of c.args.words.now) (g.S.Source.left c.args.source.now) c.in-Err.refusal LongPsdu
    (GivesExactly (most_octets + 1) (g.S.Source.left c.args.source.now) (g.S.Source.left c.execute.new.source)) c.in-Err.ensures.outcome (rw status_is tt) (λ never. cc)
    (λ same command says. (c.in-Err.ensures.reads command says).to_limit (ap Some same))

pub returns-in-Err-clause-read_to_input_limit : goal.returns-in-Err-clause-read_to_input_limit
returns-in-Err-clause-read_to_input_limit g c = λ is.
    let status_is : status_of c.in-Err.refusal ≡ status.BadInput = sym c.refuse.ensures.status ∙ is in
    where_refused c.outcome_is_one.ensures.only (texts_of c.args.words.now) (g.S.Source.left c.args.source.now) c.in-Err.refusal LongCapture
    (GivesExactly (most_input + 1) (g.S.Source.left c.args.source.now) (g.S.Source.left c.execute.new.source)) c.in-Err.ensures.outcome (rw status_is tt) (λ never. cc)
    (λ same command says. (c.in-Err.ensures.reads command says).to_input_limit (ap Some same))
