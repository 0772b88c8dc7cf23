use Rattle.viterbi_lanes.proofs.Trellis.start.Goals as goal

pub returns-clause-stands : goal.returns-clause-stands
returns-clause-stands c = c.start.ensures.holds 2
