use Rattle.frame_lists.proofs.Sending.{sent_list_is_near}
use Rattle.frame_lists.proofs.laws.sent_lists_are_near.Goals as goal

pub returns : goal.returns
returns c = sent_list_is_near c.sent_frames.ensures.near
