use Rattle.command_answers.proofs.Outcomes.{only_outcome, some_outcome}
use Rattle.command_answers.proofs.laws.outcome_is_one.Goals as goal

pub returns : goal.returns
returns c = record {
  some = some_outcome (record {
    field = c.one_field.ensures.some;
    soft = c.one_soft_field.ensures.some;
    reports = c.one_report.ensures.some;
    findings = c.one_reception.ensures.some;
    frame = c.one_frame_at.ensures.some;
  });
  only = only_outcome (record {
    field = c.one_field.ensures.no_other;
    soft = c.one_soft_field.ensures.no_other;
    reports = c.one_report.ensures.no_other;
    findings = c.one_reception.ensures.no_other;
    frame = c.one_frame_at.ensures.no_other;
  });
}
