use Rattle.std.proofs.Common.{◌+◌, arith}
use Rattle.fixed_complex.proofs.Turning.{same_turn}
use Rattle.fixed_complex.proofs.TurnLaws.{turn-half, turn-quarter}
use Rattle.fixed_complex.proofs.laws.whole_half_and_quarter_turns.Goals as goal

pub returns-clause-whole : goal.returns-clause-whole
returns-clause-whole c = λ m. same_turn (m + 64) m (omega arith)

pub returns-clause-half : goal.returns-clause-half
returns-clause-half c = turn-half

pub returns-clause-quarter : goal.returns-clause-quarter
returns-clause-quarter c = turn-quarter
