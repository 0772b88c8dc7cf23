use Rattle.std.proofs.Common.{◌≡◌, ◌+◌, ◌*◌, ◌/◌, ◌<◌, ◌≤◌, List, ◌++◌, length}
use Rattle.modem_ports.specs.Counts.{raised_by}
use Rattle.puncture_map.specs.Kept.{kept_count}
use Rattle.survivor_memory.specs.Survivors.{AreEntries}
use Rattle.viterbi_lanes.specs.declared.Mark.{Mark}
use Rattle.viterbi_lanes.specs.Decisions.{fed_at_once, marks_of}
use Rattle.viterbi_lanes.specs.Marks.{StandsFor}
use Rattle.viterbi_lanes.proofs.Trellis.feed.Given as goal

abbrev pub invariant-loop-block : goal.invariant-loop-block
invariant-loop-block l = record {
  stands : (marks : List (Mark × Mark)) → StandsFor l.initial.self marks → StandsFor l.self (marks ++ marks_of l.rate l.decisions (l._block * fed_at_once l.rate));
  next : l.next ≡ kept_count l.rate (l._block * fed_at_once l.rate);
  few : l.next ≤ 2 * (l._block * fed_at_once l.rate);
  held : length l.self.rows ≡ length l.initial.self.rows + l._block * fed_at_once l.rate;
  room : l.self.room ≡ l.initial.self.room;
  none : l._block ≡ 0 → l.steps ≡ l.initial.steps;
  counted : 0 < l._block → l.steps ≡ raised_by (l._block * fed_at_once l.rate) l.initial.steps;
  entries : 0 < l._block → AreEntries l.self.entries;
}

abbrev pub invariant-loop-phase : goal.invariant-loop-phase
invariant-loop-phase l = record {
  stands : (marks : List (Mark × Mark)) → StandsFor l.initial.self (marks ++ marks_of l.rate l.decisions (l.count / fed_at_once l.rate * fed_at_once l.rate))
      → StandsFor l.self (marks ++ marks_of l.rate l.decisions (l.count / fed_at_once l.rate * fed_at_once l.rate + l.phase));
  next : l.next ≡ kept_count l.rate (l.count / fed_at_once l.rate * fed_at_once l.rate + l.phase);
  few : l.next ≤ 2 * (l.count / fed_at_once l.rate * fed_at_once l.rate + l.phase);
  held : length l.self.rows ≡ length l.initial.self.rows + l.phase;
  room : l.self.room ≡ l.initial.self.room;
  none : l.phase ≡ 0 → l.steps ≡ l.initial.steps;
  counted : 0 < l.phase → l.steps ≡ raised_by l.phase l.initial.steps;
  entries : 0 < l.count / fed_at_once l.rate * fed_at_once l.rate + l.phase → AreEntries l.self.entries;
}
