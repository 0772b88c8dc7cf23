use Rattle.send_lists.proofs.Samples.{sent_lists_near}
use Rattle.send_lists.proofs.laws.sent_lists_are_near.Goals as goal

pub returns : goal.returns
returns c = sent_lists_near c.sent_lists_are_near.ensures
