use Rattle.std.proofs.Common.{◌≡◌, ◌+◌, ◌-◌, ◌*◌, ◌≤◌, List, ◌++◌, length}
use Rattle.frame_findings.specs.declared.EdgeReport.{EdgeReport}
use Rattle.frame_findings.specs.Reports.{AreReports}
use Rattle.frame_findings.proofs.inspection.inspect.Given as goal

abbrev pub invariant-loop-place : goal.invariant-loop-place
invariant-loop-place l = record {
  within : l.from ≤ length l.capture;
  room : l.trellis.room ≡ 24;
  counted : l.steps ≤ l.initial.steps + l.from + 347 * length l.reports.items;
  reported : (rest : List EdgeReport) → AreReports l.capture l.from rest → AreReports l.capture 0 (l.reports.items ++ rest);
}

abbrev pub decreases-loop-place : goal.decreases-loop-place
decreases-loop-place l = length l.capture - l.from
