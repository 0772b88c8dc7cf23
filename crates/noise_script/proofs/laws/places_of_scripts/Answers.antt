use Rattle.std.proofs.Common.{arith}
use Rattle.noise_script.specs.Scripts.{IsScript}
use Rattle.noise_script.proofs.Decisions.{script_decided}
use Rattle.word_grammar.proofs.Places.{none_bad, one_place}
use Rattle.noise_script.proofs.laws.places_of_scripts.Goals as goal

pub returns-clause-one : goal.returns-clause-one
returns-clause-one c = one_place (IsScript 16)

pub returns-clause-none : goal.returns-clause-none
returns-clause-none c = none_bad (IsScript 16)

pub returns-clause-decided : goal.returns-clause-decided
returns-clause-decided c = script_decided 16 (omega arith)
