use Rattle.std.proofs.Common.{◌≡◌, ◌+◌, ◌*◌, ◌/◌, ◌<◌, ◌≤◌, List, ◌++◌, length}
use Rattle.modem_ports.specs.Counts.{raised_by}
use Rattle.puncture_map.specs.Kept.{kept_count, period_of}
use Rattle.soft_trellis.specs.declared.Soft.{Soft}
use Rattle.soft_trellis.specs.Values.{marks_of}
use Rattle.soft_trellis.specs.Marks.{StandsFor}
use Rattle.soft_trellis.proofs.SoftTrellis.feed.Given as goal

abbrev pub invariant-loop-period : goal.invariant-loop-period
invariant-loop-period l = record {
  stands : (marks : List (Soft × Soft)) → StandsFor l.initial.self marks → StandsFor l.self (marks ++ marks_of l.rate l.values (l._period * period_of l.rate));
  next : l.next ≡ kept_count l.rate (l._period * period_of l.rate);
  few : l.next ≤ 2 * (l._period * period_of l.rate);
  held : length l.self.rows ≡ length l.initial.self.rows + l._period * period_of l.rate;
  room : l.self.room ≡ l.initial.self.room;
  none : l._period ≡ 0 → l.steps ≡ l.initial.steps;
  counted : 0 < l._period → l.steps ≡ raised_by (l._period * period_of l.rate) l.initial.steps;
}

abbrev pub invariant-loop-phase : goal.invariant-loop-phase
invariant-loop-phase l = record {
  stands : (marks : List (Soft × Soft)) → StandsFor l.initial.self (marks ++ marks_of l.rate l.values (l.count / period_of l.rate * period_of l.rate))
      → StandsFor l.self (marks ++ marks_of l.rate l.values (l.count / period_of l.rate * period_of l.rate + l.phase));
  next : l.next ≡ kept_count l.rate (l.count / period_of l.rate * period_of l.rate + l.phase);
  few : l.next ≤ 2 * (l.count / period_of l.rate * period_of l.rate + l.phase);
  held : length l.self.rows ≡ length l.initial.self.rows + l.phase;
  room : l.self.room ≡ l.initial.self.room;
  none : l.phase ≡ 0 → l.steps ≡ l.initial.steps;
  counted : 0 < l.phase → l.steps ≡ raised_by l.phase l.initial.steps;
}
