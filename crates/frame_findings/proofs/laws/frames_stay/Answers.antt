use Rattle.frame_findings.proofs.Walking.{frames_stay}
use Rattle.frame_findings.proofs.laws.frames_stay.Goals as goal

pub returns : goal.returns
returns c = frames_stay
