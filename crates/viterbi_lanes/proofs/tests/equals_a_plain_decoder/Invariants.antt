use Rattle.std.proofs.Common.{◌≡◌, []}
use Rattle.viterbi_lanes.specs.Marks.{StandsFor}
use Rattle.viterbi_lanes.proofs.tests.equals_a_plain_decoder.Given as goal

abbrev pub invariant-loop-rate : goal.invariant-loop-rate
invariant-loop-rate g l = record { empty : StandsFor l.trellis []; room : l.trellis.room ≡ 32782 }

abbrev pub invariant-loop-list : goal.invariant-loop-list
invariant-loop-list g l = record { empty : StandsFor l.trellis []; room : l.trellis.room ≡ 32782 }
