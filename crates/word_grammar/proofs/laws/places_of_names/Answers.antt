use Rattle.word_grammar.specs.Names.{IsOneOf}
use Rattle.word_grammar.proofs.Decided.{decided_name}
use Rattle.word_grammar.proofs.Names.{bad_name}
use Rattle.word_grammar.proofs.Places.{none_bad, one_place}
use Rattle.word_grammar.proofs.laws.places_of_names.Goals as goal

pub returns-clause-one : goal.returns-clause-one
returns-clause-one c = λ names. one_place (IsOneOf names)

pub returns-clause-none : goal.returns-clause-none
returns-clause-none c = λ names. none_bad (IsOneOf names)

pub returns-clause-decided : goal.returns-clause-decided
returns-clause-decided c = λ names some. decided_name names some

pub returns-clause-bad : goal.returns-clause-bad
returns-clause-bad c = λ names word some none. bad_name names word some none
