use Rattle.frames_turned.proofs.Frames.{turned_frame_is_read, turned_frame_is_there}
use Rattle.frames_turned.proofs.laws.a_frame_with_turns_is_read.Goals as goal

pub returns-clause-read : goal.returns-clause-read
returns-clause-read c = turned_frame_is_read

pub returns-clause-there : goal.returns-clause-there
returns-clause-there c = turned_frame_is_there
