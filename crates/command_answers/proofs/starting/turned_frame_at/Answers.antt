use Rattle.std.proofs.Common.{ap}
use Rattle.std.specs.Prelude.{Ok, Err}
use Rattle.frame_reader.specs.Decisions.{decisions_by}
use Rattle.frames_turned.specs.Deciding.{phase_decided}
use Rattle.command_answers.specs.InOrder.{Writes}
use Rattle.command_answers.proofs.AtStart.{fault_refused}
use Rattle.command_answers.proofs.starting.turned_frame_at.Goals as goal

pub returns-in_ok-frame_text-in-Ok-clause-ok : goal.returns-in_ok-frame_text-in-Ok-clause-ok
returns-in_ok-frame_text-in-Ok-clause-ok c = (Ok c.in-Ok.heard, c.in-Ok.ensures.heard, ap Writes c.in_ok-frame_text-in-Ok.ensures)

pub returns-in-Err-clause-refused : goal.returns-in-Err-clause-refused
returns-in-Err-clause-refused c =
    fault_refused (decisions_by phase_decided) c.args.start c.args.samples.now c.in-Err.fault c.refusal_of.result c.refusal_of.ensures
    (λ at have need same. c.in-Err.ensures.cut at have need (ap Err same)) (λ at same. c.in-Err.ensures.bad_header at (ap Err same))
