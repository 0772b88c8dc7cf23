use Rattle.std.proofs.Common.{◌≡◌}
use Rattle.modem_ports.specs.Counts.{raised_by}
use Rattle.frame_search.proofs.counting.tick_times.Given as goal

abbrev pub invariant-loop-done : goal.invariant-loop-done
invariant-loop-done l = l.steps ≡ raised_by l.done l.initial.steps
