use Rattle.std.proofs.Common.{◌≡◌, ◌∙◌}
use Rattle.modem_ports.specs.Counts.{Rose}
use Rattle.modem_ports.specs.Told.{Takes, TakesPrefix}
use Rattle.report_lines.specs.Refusals.{report_line}
use Rattle.modem_runs.proofs.Written.{whole_or_part}
use Rattle.modem_runs.proofs.refuse.Goals as goal

pub returns-clause-reported : goal.returns-clause-reported
returns-clause-reported g c =
    let line : c.as_slice.result.now ≡ report_line c.args.refusal = c.as_slice.ensures.value ∙ c.line_of-line.ensures in
    rw (← line) (whole_or_part c.write_all.result
    (Takes (g.E.Sink.taken c.args.report.now) c.as_slice.result.now (g.E.Sink.taken c.write_all.new.sink))
    (Rose (g.E.Sink.faults c.args.report.now) (g.E.Sink.faults c.write_all.new.sink))
    (TakesPrefix (g.E.Sink.taken c.args.report.now) c.as_slice.result.now (g.E.Sink.taken c.write_all.new.sink))
    c.write_all.ensures.ok c.write_all.ensures.failed c.write_all.ensures.prefix)
