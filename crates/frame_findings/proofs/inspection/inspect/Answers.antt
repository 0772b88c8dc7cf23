use Rattle.std.proofs.Common.{◌≡◌, ◌+◌, [], ◌∷◌, length, arith}
use Rattle.std.proofs.lemmas.List.{length-append}
use Rattle.frame_findings.proofs.Reporting.{next_within, report_next, report_none}
use Rattle.frame_findings.proofs.inspection.inspect.Goals as goal

pub loop-place-preserved : goal.loop-place-preserved
loop-place-preserved c = record {
  within = omega (arith, next_within c.args.capture.now c.loop-place.from c.in-Some.place c.in-Some.ensures.next);
  room = c.finding_at.ensures.room;
  counted =
      let longer : length c.push.new.self.items ≡ length c.loop-place.reports.items + 1 =
      rw c.in_ok-push.ensures.items (length-append c.loop-place.reports.items (record { place = c.in-Some.place; finding = c.finding_at.result } ∷ [])) in
      omega (arith, longer, c.loop-place.invariant.counted, c.in-Some.ensures.counted, c.finding_at.ensures.counted, c.in-Some.ensures.next.least);
  reported = rw c.in_ok-push.ensures.items (report_next c.args.capture.now c.loop-place.from c.loop-place.reports.items (record { place = c.in-Some.place; finding = c.finding_at.result })
      c.loop-place.invariant.reported c.in-Some.ensures.next c.finding_at.ensures.finding);
}

pub returns-clause-reports : goal.returns-clause-reports
returns-clause-reports c = report_none c.args.capture.now c.loop-place.from c.loop-place.reports.items c.loop-place.invariant.reported c.in_default.ensures.none
