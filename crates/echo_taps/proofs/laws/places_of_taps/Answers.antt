use Rattle.echo_taps.specs.Texts.{IsTapText}
use Rattle.echo_taps.proofs.Series.{taps_decided}
use Rattle.word_grammar.proofs.Places.{none_bad, one_place}
use Rattle.echo_taps.proofs.laws.places_of_taps.Goals as goal

pub returns-clause-one : goal.returns-clause-one
returns-clause-one c = one_place IsTapText

pub returns-clause-none : goal.returns-clause-none
returns-clause-none c = none_bad IsTapText

pub returns-clause-decided : goal.returns-clause-decided
returns-clause-decided c = taps_decided
