use Rattle.list_texts.specs.Lists.{IsList}
use Rattle.list_texts.proofs.Decisions.{list_decided}
use Rattle.word_grammar.proofs.Places.{none_bad, one_place}
use Rattle.list_texts.proofs.laws.places_of_lists.Goals as goal

pub returns-clause-one : goal.returns-clause-one
returns-clause-one c = one_place IsList

pub returns-clause-none : goal.returns-clause-none
returns-clause-none c = none_bad IsList

pub returns-clause-decided : goal.returns-clause-decided
returns-clause-decided c = list_decided
