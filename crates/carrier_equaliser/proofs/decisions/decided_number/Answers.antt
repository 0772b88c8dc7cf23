use Rattle.carrier_equaliser.specs.Decided.{decided_at}
use Rattle.carrier_equaliser.proofs.decisions.decided_number.Goals as goal

pub returns-clause-value : goal.returns-clause-value
unfolding decided_at
returns-clause-value c = λ rate is. rw c.data_bin-bin.ensures.bin at (c.decided.ensures.value rate is)
