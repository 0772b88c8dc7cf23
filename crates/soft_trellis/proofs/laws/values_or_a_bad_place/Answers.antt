use Rattle.soft_trellis.proofs.Digits.{apart, one_place, one_text, some_text}
use Rattle.soft_trellis.proofs.laws.values_or_a_bad_place.Goals as goal

pub returns-clause-some : goal.returns-clause-some
returns-clause-some c = some_text

pub returns-clause-one_text : goal.returns-clause-one_text
returns-clause-one_text c = one_text

pub returns-clause-one_place : goal.returns-clause-one_place
returns-clause-one_place c = one_place

pub returns-clause-apart : goal.returns-clause-apart
returns-clause-apart c = apart
