use Rattle.frames_in_noise.proofs.Walking.{sent_list_is_heard}
use Rattle.frames_in_noise.proofs.laws.sent_lists_are_heard.Goals as goal

pub returns : goal.returns
returns c = sent_list_is_heard c.sent_lists_are_near.ensures
