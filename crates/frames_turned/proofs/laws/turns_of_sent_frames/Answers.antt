use Rattle.frames_turned.proofs.Sent.{not_held, turned_is_near}
use Rattle.frames_turned.proofs.laws.turns_of_sent_frames.Goals as goal

pub returns : goal.returns
returns c = record { near = turned_is_near; not_held = not_held }
