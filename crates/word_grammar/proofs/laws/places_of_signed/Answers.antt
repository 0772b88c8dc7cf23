use Rattle.word_grammar.specs.Signs.{IsSigned}
use Rattle.word_grammar.proofs.Decided.{decided_signed}
use Rattle.word_grammar.proofs.Places.{none_bad, one_place}
use Rattle.word_grammar.proofs.laws.places_of_signed.Goals as goal

pub returns-clause-one : goal.returns-clause-one
returns-clause-one c = λ below above. one_place (IsSigned below above)

pub returns-clause-none : goal.returns-clause-none
returns-clause-none c = λ below above. none_bad (IsSigned below above)

pub returns-clause-decided : goal.returns-clause-decided
returns-clause-decided c = λ below above a b. decided_signed below above a b
