use Rattle.signal_field.proofs.Signal.{even_sum}
use Rattle.signal_field.proofs.laws.even_sum.Goals as goal

pub returns : goal.returns
returns c = even_sum
