use Rattle.frame_receiver.proofs.Settling.{tail_of_none}
use Rattle.frame_receiver.proofs.tail.Tail.open.Goals as goal

pub returns-clause-tail : goal.returns-clause-tail
returns-clause-tail c = rw c.requires tail_of_none
