use Rattle.frames_in_echoes.proofs.Frames.{echoed_frame_is_read, echoed_frame_is_there}
use Rattle.frames_in_echoes.proofs.laws.an_echoed_frame_is_read.Goals as goal

pub returns-clause-read : goal.returns-clause-read
returns-clause-read c = echoed_frame_is_read

pub returns-clause-there : goal.returns-clause-there
returns-clause-there c = echoed_frame_is_there
