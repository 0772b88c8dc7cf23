use Rattle.viterbi_lanes.proofs.Trellis.open.Goals as goal

pub returns-clause-stands : goal.returns-clause-stands
returns-clause-stands c = c.in_ok-open.ensures.holds 2
