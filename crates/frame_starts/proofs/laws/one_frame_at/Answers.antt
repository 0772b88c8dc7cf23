use Rattle.frame_starts.proofs.Starts.{one_frame_at, some_frame_at}
use Rattle.frame_starts.proofs.laws.one_frame_at.Goals as goal

pub returns-clause-some : goal.returns-clause-some
returns-clause-some c = some_frame_at

pub returns-clause-no_other : goal.returns-clause-no_other
returns-clause-no_other c = one_frame_at
