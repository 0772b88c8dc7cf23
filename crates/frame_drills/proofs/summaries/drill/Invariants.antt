use Rattle.std.proofs.Common.{◌≡◌, ◌+◌, ◌*◌, ◌≤◌, length, map}
use Rattle.std.specs.List.{sum_by}
use Rattle.frame_drills.specs.Captures.{first_capture, second_capture}
use Rattle.frame_drills.specs.Summaries.{numbers}
use Rattle.frame_drills.proofs.Back.{is_back}
use Rattle.frame_drills.proofs.Totals.{octets_of}
use Rattle.frame_drills.proofs.summaries.drill.Given as goal

abbrev pub invariant-loop-number : goal.invariant-loop-number
invariant-loop-number l = record {
  count : l.summary.count ≡ l.count;
  heard : l.summary.heard ≡ l.number;
  octets : l.summary.octets ≡ octets_of (is_back second_capture) l.number;
  few_octets : l.summary.octets ≤ 4095 * l.number;
  samples : l.summary.samples ≡ sum_by length (map first_capture (numbers l.number));
  few_samples : l.summary.samples ≤ 111827 * l.number;
  counted : l.steps ≤ l.initial.steps + 7157952 * l.number;
}
