use Rattle.exact_decisions.proofs.Heard.{sent_is_heard}
use Rattle.exact_decisions.proofs.laws.sent_decisions_are_heard.Goals as goal

pub returns : goal.returns
returns c = sent_is_heard
