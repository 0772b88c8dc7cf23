use Rattle.std.proofs.Common.{◌≡◌, ◌⊎◌, refl, ap, subst, ◌∙◌}
use Rattle.std.specs.Result.{IfErr, IfOk}
use Rattle.capture_files.specs.Captures.{bytes_of_samples}
use Rattle.capture_files.proofs.Bytes.{samples_back}
use Rattle.echo_taps.specs.Echoes.{echo_of}
use Rattle.frame_reader.specs.Decisions.{decisions_by, plain_decisions}
use Rattle.frames_turned.specs.Deciding.{phase_decided}
use Rattle.report_lines.specs.declared.Refusal.TheVariants.{NoMemory}
use Rattle.report_lines.specs.Refusals.{answering, step_of}
use Rattle.command_answers.specs.Answers.{bytes_of_answer}
use Rattle.command_answers.specs.InOrder.{Refuses, Writes, with_it}
use Rattle.command_answers.specs.Receiving.{HasReports}
use Rattle.command_answers.specs.Starting.{HasFrameAt}
use Rattle.command_answers.proofs.answers.answer_of_capture.Goals as goal

pub returns-in_ok-noisy_samples-in-Noise-clause-ok : goal.returns-in_ok-noisy_samples-in-Noise-clause-ok
returns-in_ok-noisy_samples-in-Noise-clause-ok c =
    let back = samples_back c.args.samples.items c.requires.samples in
    rw (c.in-Noise.is, back) (ap (λ list. Writes (bytes_of_samples list)) c.in_ok-noisy_samples-in-Noise.ensures)

pub returns-in_ok-apply-in-Echo-clause-ok : goal.returns-in_ok-apply-in-Echo-clause-ok
returns-in_ok-apply-in-Echo-clause-ok c =
    let back = samples_back c.args.samples.items c.requires.samples in
    rw (c.in-Echo.is, back) (ap (λ list. Writes (bytes_of_samples list)) (c.in_ok-apply-in-Echo.ensures.echo ∙ ap (echo_of c.in-Echo.taps) c.deref.ensures.value))

pub returns-in-Rotate-clause-ok : goal.returns-in-Rotate-clause-ok
returns-in-Rotate-clause-ok c =
    let back = samples_back c.args.samples.items c.requires.samples in
    rw (c.in-Rotate.is, back) (ap (λ list. Writes (bytes_of_samples list)) c.turned.ensures)

pub returns-in-ReceiveAt-clause-ok : goal.returns-in-ReceiveAt-clause-ok
returns-in-ReceiveAt-clause-ok c =
    let back = samples_back c.args.samples.items c.requires.samples in
    rw (c.in-ReceiveAt.is, back) (subst (λ list. IfOk c.frame_at.result (λ answer. HasFrameAt plain_decisions c.in-ReceiveAt.start list (Writes (bytes_of_answer answer))))
    c.deref-in-ReceiveAt.ensures.value c.frame_at.ensures.ok)

pub returns-in-ReceiveAt-clause-refused : goal.returns-in-ReceiveAt-clause-refused
returns-in-ReceiveAt-clause-refused c =
    let back = samples_back c.args.samples.items c.requires.samples in
    rw (c.in-ReceiveAt.is, back) (subst
    (λ list. IfErr c.frame_at.result (λ refusal. (refusal ≡ NoMemory) ⊎ ((step_of refusal ≡ answering) × HasFrameAt plain_decisions c.in-ReceiveAt.start list (Refuses refusal))))
    c.deref-in-ReceiveAt.ensures.value c.frame_at.ensures.refused)

pub returns-in-ReceivePhase-clause-ok : goal.returns-in-ReceivePhase-clause-ok
returns-in-ReceivePhase-clause-ok c =
    let back = samples_back c.args.samples.items c.requires.samples in
    rw (c.in-ReceivePhase.is, back) (subst (λ list. IfOk c.turned_frame_at.result (λ answer. HasFrameAt (decisions_by phase_decided) c.in-ReceivePhase.start list (Writes (bytes_of_answer answer))))
    c.deref-in-ReceivePhase.ensures.value c.turned_frame_at.ensures.ok)

pub returns-in-ReceivePhase-clause-refused : goal.returns-in-ReceivePhase-clause-refused
returns-in-ReceivePhase-clause-refused c =
    let back = samples_back c.args.samples.items c.requires.samples in
    rw (c.in-ReceivePhase.is, back) (subst
    (λ list. IfErr c.turned_frame_at.result (λ refusal. (refusal ≡ NoMemory) ⊎ ((step_of refusal ≡ answering) × HasFrameAt (decisions_by phase_decided) c.in-ReceivePhase.start list (Refuses refusal))))
    c.deref-in-ReceivePhase.ensures.value c.turned_frame_at.ensures.refused)

pub returns-in_ok-edges_text-in-Inspect-clause-ok : goal.returns-in_ok-edges_text-in-Inspect-clause-ok
returns-in_ok-edges_text-in-Inspect-clause-ok c =
    let back = samples_back c.args.samples.items c.requires.samples in
    rw (c.in-Inspect.is, back) (with_it c.in_ok-edges_text-in-Inspect.field-0.items
    (subst (λ list. HasReports list c.in_ok-edges_text-in-Inspect.field-0.items) c.deref-in-Inspect.ensures.value c.in_ok-edges_text-in-Inspect.ensures) refl)
