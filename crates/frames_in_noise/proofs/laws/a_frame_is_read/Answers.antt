use Rattle.frames_in_noise.proofs.Frames.{frame_is_read}
use Rattle.frames_in_noise.proofs.laws.a_frame_is_read.Goals as goal

pub returns : goal.returns
returns c = frame_is_read
