use Rattle.command_answers.proofs.InTurns.{turned_outcome}
use Rattle.command_answers.proofs.laws.turned_capture_gives_its_frame.Goals as goal

pub returns : goal.returns
returns c = turned_outcome c.a_frame_with_turns_is_read.ensures.there
