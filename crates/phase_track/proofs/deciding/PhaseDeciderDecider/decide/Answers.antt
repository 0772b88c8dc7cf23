use Rattle.std.proofs.Common.{◌≡◌, ap, ◌∙◌}
use Rattle.interleave_two.specs.Place.{deinterleaved}
use Rattle.carrier_equaliser.specs.Received.{received}
use Rattle.pilot_turns.specs.Pilots.{turn_by_pilots}
use Rattle.pilot_turns.specs.Turned.{interleaved_turned}
use Rattle.frames_turned.specs.Deciding.{phase_decided}
use Rattle.phase_track.proofs.deciding.PhaseDeciderDecider.decide.Goals as goal

pub returns-clause-list : goal.returns-clause-list
unfolding phase_decided
returns-clause-list c =
    let rate = c.args.rate in
    let estimate = c.args.estimate.now in
    let carriers = c.carriers_of-carriers.result in
    let symbol = received c.args.body.now in
    let number = c.args.number in
    let same : carriers ≡ symbol = c.carriers_of-carriers.ensures.carriers in
    let decided = c.turned_decisions.ensures.list
    ∙ ap (λ turn. interleaved_turned rate turn estimate carriers) c.pilot_turn-turn.ensures.turn
    ∙ ap (λ list. interleaved_turned rate (turn_by_pilots estimate list number) estimate list) same in
    c.deinterleave.ensures.list ∙ c.deinterleave.ensures.front ∙ ap (deinterleaved rate) decided
