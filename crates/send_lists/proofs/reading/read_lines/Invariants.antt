use Rattle.std.proofs.Common.{◌≡◌, ◌-◌, ◌*◌, ◌<◌, ◌≤◌, ◌⊎◌, length}
use Rattle.send_lists.proofs.Texts.{AreReadUpTo}
use Rattle.send_lists.proofs.reading.read_lines.Given as goal

abbrev pub invariant-loop-len : goal.invariant-loop-len
invariant-loop-len l = record {
  read : AreReadUpTo l.text l.from l.lines.entries.items l.lines.samples;
  within : l.from ≤ length l.text;
  more : (l.from ≡ 0) ⊎ (l.from < length l.text);
  paced : l.lines.samples ≤ 2097152 * l.from;
}

abbrev pub decreases-loop-len : goal.decreases-loop-len
decreases-loop-len l = length l.text - l.from
