use Rattle.frames_in_echoes.proofs.Frames.{echo_is_read, echo_is_there}
use Rattle.frames_in_echoes.proofs.laws.the_echo_of_a_frame_is_read.Goals as goal

pub returns-clause-read : goal.returns-clause-read
returns-clause-read c = echo_is_read

pub returns-clause-there : goal.returns-clause-there
returns-clause-there c = echo_is_there
