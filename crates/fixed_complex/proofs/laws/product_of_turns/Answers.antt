use Rattle.fixed_complex.proofs.TurnLaws.{within-product_of_turns, size-product_of_turns}
use Rattle.fixed_complex.proofs.laws.product_of_turns.Goals as goal

pub returns-clause-within : goal.returns-clause-within
returns-clause-within c = within-product_of_turns

pub returns-clause-size : goal.returns-clause-size
returns-clause-size c = size-product_of_turns
