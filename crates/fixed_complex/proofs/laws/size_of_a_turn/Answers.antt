use Rattle.fixed_complex.proofs.TurnLaws.{turn-within, turn-sum, turn-size}
use Rattle.fixed_complex.proofs.laws.size_of_a_turn.Goals as goal

pub returns-clause-within : goal.returns-clause-within
returns-clause-within c = turn-within

pub returns-clause-sum : goal.returns-clause-sum
returns-clause-sum c = turn-sum

pub returns-clause-size : goal.returns-clause-size
returns-clause-size c = turn-size
