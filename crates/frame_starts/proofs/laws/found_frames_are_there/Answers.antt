use Rattle.frame_starts.proofs.Starts.{found_are_there}
use Rattle.frame_starts.proofs.laws.found_frames_are_there.Goals as goal

pub returns : goal.returns
returns c = found_are_there
