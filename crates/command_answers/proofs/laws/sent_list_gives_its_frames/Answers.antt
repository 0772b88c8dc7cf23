use Rattle.command_answers.proofs.ListsSent.{sent_list_received}
use Rattle.command_answers.proofs.laws.sent_list_gives_its_frames.Goals as goal

pub returns : goal.returns
returns c = sent_list_received c.sent_frames.ensures.within c.sent_lists_are_heard.ensures
