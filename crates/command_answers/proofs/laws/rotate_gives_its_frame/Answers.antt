use Rattle.command_answers.proofs.InTurns.{rotate_outcome}
use Rattle.command_answers.proofs.laws.rotate_gives_its_frame.Goals as goal

pub returns : goal.returns
returns c = rotate_outcome c.sent_frames.ensures.within c.the_turned_frame_is_read.ensures.there
