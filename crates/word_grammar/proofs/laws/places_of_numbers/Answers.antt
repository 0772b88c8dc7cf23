use Rattle.word_grammar.specs.Numbers.{IsNumber}
use Rattle.word_grammar.proofs.Decided.{decided_number}
use Rattle.word_grammar.proofs.Places.{none_bad, one_place}
use Rattle.word_grammar.proofs.laws.places_of_numbers.Goals as goal

pub returns-clause-one : goal.returns-clause-one
returns-clause-one c = λ least most. one_place (IsNumber least most)

pub returns-clause-none : goal.returns-clause-none
returns-clause-none c = λ least most. none_bad (IsNumber least most)

pub returns-clause-decided : goal.returns-clause-decided
returns-clause-decided c = λ least most l b w. decided_number least most b l w
