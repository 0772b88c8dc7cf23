use Rattle.std.proofs.Common.{inr, refl}
use Rattle.bit_lists.proofs.Texts.{some_text, one_text, one_place, apart}
use Rattle.bit_lists.proofs.laws.bits_or_a_bad_place.Goals as goal

pub returns-clause-some : goal.returns-clause-some
returns-clause-some c = some_text

pub returns-clause-one_text : goal.returns-clause-one_text
returns-clause-one_text c = one_text

pub returns-clause-one_place : goal.returns-clause-one_place
returns-clause-one_place c = one_place

pub returns-clause-apart : goal.returns-clause-apart
returns-clause-apart c = apart

pub returns-clause-written : goal.returns-clause-written
returns-clause-written c = λ bits. inr refl
