use Rattle.std.proofs.Common.{ap, ◌∙◌}
use Rattle.interleave_two.specs.Place.{deinterleaved}
use Rattle.carrier_equaliser.specs.Decided.{interleaved_decisions}
use Rattle.frame_reader.specs.Decisions.{decisions_of}
use Rattle.frame_reader.proofs.deciders.PlainDeciderDecider.decide.Goals as goal

pub returns-clause-list : goal.returns-clause-list
unfolding decisions_of
returns-clause-list c =
    let rate = c.args.rate in
    let decided = c.decisions.ensures.list ∙ ap (interleaved_decisions rate c.args.estimate.now) c.carriers_of-carriers.ensures.carriers in
    c.deinterleave.ensures.list ∙ c.deinterleave.ensures.front ∙ ap (deinterleaved rate) decided
