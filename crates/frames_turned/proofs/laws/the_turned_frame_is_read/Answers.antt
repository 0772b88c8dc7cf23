use Rattle.frames_turned.proofs.Sent.{turned_is_read, turned_is_there}
use Rattle.frames_turned.proofs.laws.the_turned_frame_is_read.Goals as goal

pub returns-clause-read : goal.returns-clause-read
returns-clause-read c = turned_is_read

pub returns-clause-there : goal.returns-clause-there
returns-clause-there c = turned_is_there
