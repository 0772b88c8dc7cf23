use Rattle.phase_track.proofs.Standing.{heard_there, only_want}
use Rattle.phase_track.proofs.reading.receive_phase.Goals as goal

pub returns-clause-in_turns : goal.returns-clause-in_turns
returns-clause-in_turns c = heard_there c.args.capture.now c.args.start c.read_at.result c.read_at.ensures.heard

pub returns-clause-not_refused_in_turns : goal.returns-clause-not_refused_in_turns
returns-clause-not_refused_in_turns c = only_want c.args.capture.now c.args.start c.read_at.result c.read_at.ensures.cut c.read_at.ensures.bad_header
