use Rattle.fixed_complex.proofs.TurnLaws.{sum-over_a_turn}
use Rattle.fixed_complex.proofs.laws.sum_over_a_turn.Goals as goal

pub returns : goal.returns
returns c = sum-over_a_turn
