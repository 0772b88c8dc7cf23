use Rattle.frame_fields.proofs.NearFrames.{near_frame, small_frame}
use Rattle.frame_fields.proofs.laws.sent_frames.Goals as goal

pub returns : goal.returns
returns c = record { near = near_frame; within = small_frame }
