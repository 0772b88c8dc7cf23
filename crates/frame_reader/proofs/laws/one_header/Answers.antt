use Rattle.frame_reader.proofs.Readings.{one_header, some_header}
use Rattle.frame_reader.proofs.laws.one_header.Goals as goal

pub returns-clause-some : goal.returns-clause-some
returns-clause-some c = some_header

pub returns-clause-no_other : goal.returns-clause-no_other
returns-clause-no_other c = one_header
